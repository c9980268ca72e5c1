-- The numbers with 1 in each field and in each piece, bit by bit: one computed test for each of them.
use mathlib.Core.Path.{◌≡◌, refl, ap}
use mathlib.Core.Bool.{true, not, ◌&&◌, ◌||◌}
use Prim.Native.Nat.{ℕ, ◌*◌, ◌/◌, ◌%◌, ◌^◌, ◌<◌}
use native.Mathlib.Nat.{zero-mul, one-mul}
use native.Mathlib.Omega.{arith}
use lib.Dec.{eqb, ltb}
use borrow.Author.Tests.{eqb-true, eqb-false, ltb-true}
use Rattle.model.specs.Numbers.{every, digit}
use Rattle.laws.proofs.Choices.{split, and_true, or_left}
use Rattle.laws.proofs.Every.{every_in}
use Rattle.sharing.specs.Masks.{bit}
use Rattle.sharing.proofs.MaskLaws.{clear}
use Rattle.table.specs.Board.{EACH-FIELD, EACH-PIECE, FIELDS, PIECES}

-- the fields' low bits, and no others of 64
fields_low : every (λ j. bit EACH-FIELD (4 * j)) FIELDS 0 ≡ true
unfolding every bit digit
fields_low = refl

pub field_low : (j : ℕ) → j < FIELDS → bit EACH-FIELD (4 * j) ≡ true
field_low j u = every_in (λ i. bit EACH-FIELD (4 * i)) FIELDS 0 fields_low j (omega arith) (omega arith)

pub spread_bit : (x k j : ℕ) → j < FIELDS → bit (x / 2 ^ k % 2 * EACH-FIELD) (4 * j) ≡ bit x k
unfolding bit digit
spread_bit x k j u =
    split (eqb (x / 2 ^ k % 2) 1)
    (λ q. let e : x / 2 ^ k % 2 ≡ 1 = eqb-true (x / 2 ^ k % 2) 1 q in rw (e, one-mul EACH-FIELD) (field_low j u))
    (λ q. let e : x / 2 ^ k % 2 ≡ 0 = omega (arith, eqb-false (x / 2 ^ k % 2) 1 q) in rw (e, zero-mul EACH-FIELD) (clear (4 * j)))

-- and no others of the 64
fields_only : every (λ k. not (bit EACH-FIELD k) || (eqb (k % 4) 0 && ltb (k / 4) FIELDS)) 64 0 ≡ true
unfolding every bit digit
fields_only = refl

pieces_only : every (λ k. not (bit EACH-PIECE k) || (eqb (k % 2) 0 && ltb (k / 2) PIECES)) 64 0 ≡ true
unfolding every bit digit
pieces_only = refl

pieces_low : every (λ j. bit EACH-PIECE (2 * j)) PIECES 0 ≡ true
unfolding every bit digit
pieces_low = refl

-- a bit that is set is the low one of a field, or of a piece
lane : (each w n k : ℕ) → every (λ i. not (bit each i) || (eqb (i % w) 0 && ltb (i / w) n)) 64 0 ≡ true → k < 64 → bit each k ≡ true → (k % w ≡ 0) × (k / w < n)
lane each w n k all u h =
    let here = every_in (λ i. not (bit each i) || (eqb (i % w) 0 && ltb (i / w) n)) 64 0 all k (omega arith) (omega arith) in
    let both = and_true (eqb (k % w) 0) (ltb (k / w) n) (or_left (not (bit each k)) _ here (ap not h)) in
    (eqb-true (k % w) 0 both.0, ltb-true (k / w) n both.1)

pub field_lane : (k : ℕ) → k < 64 → bit EACH-FIELD k ≡ true → (k % 4 ≡ 0) × (k / 4 < FIELDS)
field_lane k = lane EACH-FIELD 4 FIELDS k fields_only

pub piece_lane : (k : ℕ) → k < 64 → bit EACH-PIECE k ≡ true → (k % 2 ≡ 0) × (k / 2 < PIECES)
piece_lane k = lane EACH-PIECE 2 PIECES k pieces_only

pub piece_low : (j : ℕ) → j < PIECES → bit EACH-PIECE (2 * j) ≡ true
piece_low j u = every_in (λ i. bit EACH-PIECE (2 * i)) PIECES 0 pieces_low j (omega arith) (omega arith)
