-- What masks count: no slot, one slot more, and the pages that are crowded.
use mathlib.Core.Path.{◌≡◌, refl, sym, ap, ap₂, ◌∙◌, subst}
use mathlib.Core.Bool.{Bool, true, false, ◌&&◌, ◌||◌, true≢false}
use Prim.Native.Nat.{ℕ, suc, ◌+◌, ◌*◌, ◌/◌, ◌^◌, ◌<◌, ◌≤◌}
use native.Mathlib.Nat.{add-zero}
use native.Mathlib.Omega.{arith}
use lib.Bits.{bit_and, bit_or}
use lib.Dec.{eqb, leb}
use borrow.Author.Tests.{leb-true, leb-false, le-leb, lt-leb}
use Rattle.model.specs.Apart.{Strength, strict, sharing}
use Rattle.laws.proofs.Choices.{split, and_true, or_true}
use Rattle.laws.proofs.BinaryDigits.{none_set}
use Rattle.laws.proofs.Sums.{sum, sum_last}
use Rattle.types.specs.declared.Masks.{Masks}
use Rattle.sharing.specs.Masks.{bit, open_bit, reach_bit, one, Counted}
use Rattle.sharing.specs.First.{First}
use Rattle.sharing.specs.Crowds.{is_crowd}
use Rattle.sharing.proofs.Bits.{bit_and_lem, bit_or_lem, bit_half}

pub clear : (k : ℕ) → bit 0 k ≡ false
unfolding bit
clear k = ap (λ (x : ℕ). eqb x 1) (none_set k)

-- where there is no permission nothing is open
pub open_none : (k : ℕ) → open_bit 0 k ≡ false
unfolding open_bit
open_none k = ap₂ (λ (a b : Bool). a || b) (clear k) (clear (suc k))

pub reach_none : (s : Strength) (k : ℕ) → reach_bit s 0 k ≡ false
unfolding reach_bit
reach_none strict k = open_none k
reach_none sharing k = clear (suc k)

pub counted_none : (k : ℕ) → Counted (record { once = 0; twice = 0; reached = 0 }) k 0 0
counted_none k = record { once = clear k; twice = clear k; reached = clear k }

-- ---- one more

one_more : (c : ℕ) (o : Bool) → (leb 1 c || o) ≡ leb 1 (c + one o)
one_more c true = or_true (leb 1 c) ∙ sym (le-leb 1 (c + 1) (omega arith))
one_more c false = or_none (leb 1 c) ∙ ap (leb 1) (sym (add-zero c))
  where
    or_none : (a : Bool) → (a || false) ≡ a
    or_none true = refl
    or_none false = refl

two_more : (c : ℕ) (o : Bool) → (leb 2 c || (leb 1 c && o)) ≡ leb 2 (c + one o)
two_more c true =
    split (leb 1 c)
    (λ p. let l : 1 ≤ c = leb-true 1 c p in rw p (or_true (leb 2 c) ∙ sym (le-leb 2 (c + 1) (omega arith))))
    (λ p. let l : c < 1 = leb-false 1 c p in rw (p, lt-leb 2 c (omega arith), lt-leb 2 (c + 1) (omega arith)) refl)
two_more c false = drop (leb 2 c) (leb 1 c) ∙ ap (leb 2) (sym (add-zero c))
  where
    drop : (a b : Bool) → (a || (b && false)) ≡ a
    drop true b = refl
    drop false true = refl
    drop false false = refl

-- a slot whose page at bit k is open as o says, and reached as t says
pub counted_more : (masks : Masks) (k c d : ℕ) → Counted masks k c d → (x y : ℕ) (o t : Bool) → bit x k ≡ o → bit y k ≡ t
    → Counted (record { once = bit_or masks.once x; twice = bit_or masks.twice (bit_and masks.once x); reached = bit_or masks.reached y }) k (c + one o) (d + one t)
counted_more masks k c d h x y o t e f =
    record {
      once = bit_or_lem masks.once x k ∙ ap₂ (λ (a b : Bool). a || b) h.once e ∙ one_more c o;
      twice = bit_or_lem masks.twice (bit_and masks.once x) k
          ∙ ap₂ (λ (a b : Bool). a || b) h.twice (bit_and_lem masks.once x k ∙ ap₂ (λ (a b : Bool). a && b) h.once e)
          ∙ two_more c o;
      reached = bit_or_lem masks.reached y k ∙ ap₂ (λ (a b : Bool). a || b) h.reached f ∙ one_more d t;
    }

-- the code's two numbers
pub open_mask : (x k : ℕ) → bit (bit_or x (x / 2 ^ 1)) k ≡ open_bit x k
unfolding open_bit
open_mask x k = bit_or_lem x (x / 2 ^ 1) k ∙ ap (λ (b : Bool). bit x k || b) (bit_half x k)

pub crowd_mask : (masks : Masks) (each k c d : ℕ) → Counted masks k c d
    → bit (bit_and (bit_and masks.twice masks.reached) each) k ≡ (is_crowd c d && bit each k)
crowd_mask masks each k c d h =
    bit_and_lem (bit_and masks.twice masks.reached) each k
    ∙ ap (λ (b : Bool). b && bit each k) (bit_and_lem masks.twice masks.reached k ∙ ap₂ (λ (a b : Bool). a && b) h.twice h.reached)

pub crowd_each : (x each k : ℕ) → bit (bit_and x each) k ≡ true → bit each k ≡ true
crowd_each x each k h = (and_true (bit x k) (bit each k) (sym (bit_and_lem x each k) ∙ h)).1

-- one L1 page more
pub table_more : (g : ℕ → Bool) (c n : ℕ) → c + sum (λ t. one (g t)) n 0 + one (g n) ≡ c + sum (λ t. one (g t)) (n + 1) 0
table_more g c n = omega (arith, sum_last (λ t. one (g t)) n)

-- ---- the lowest of the pages whose bits are set

module _ (w n x s : ℕ) (test : ℕ → Bool) (bits : (i : ℕ) → i < n → bit x (w * i) ≡ test (s + i)) where
  pub no_lane : x ≡ 0 → First test s n n
  no_lane z = record { within = omega arith; passes = λ h. absurd (omega arith); before = λ k h. sym (bits k h) ∙ ap (λ (y : ℕ). bit y (w * k)) z ∙ clear (w * k) }

  pub first_lane : (r j : ℕ) → r ≡ w * j → j < n → bit x r ≡ true → ((k : ℕ) → k < r → bit x k ≡ false) → ((k : ℕ) → k < j → w * k < w * j) → First test s n j
  first_lane r j e l set' below grows =
      record {
        within = omega arith;
        passes = λ h. sym (bits j l) ∙ ap (bit x) (sym e) ∙ set';
        before = λ k h. sym (bits k (omega arith)) ∙ below (w * k) (subst (λ (y : ℕ). w * k < y) (sym e) (grows k h));
      }

-- open to no slot
pub none_once : (masks : Masks) (each k c d : ℕ) → bit_and masks.once each ≡ 0 → bit each k ≡ true → Counted masks k c d → c ≡ 0
none_once masks each k c d z e h =
    let here : (leb 1 c && true) ≡ false
    = ap₂ (λ (a b : Bool). a && b) (sym h.once) (sym e) ∙ sym (bit_and_lem masks.once each k) ∙ ap (λ (x : ℕ). bit x k) z ∙ clear k in
    split (leb 1 c)
    (λ p. absurd (true≢false (sym (rw p refl) ∙ here)))
    (λ p. omega (arith, leb-false 1 c p))
