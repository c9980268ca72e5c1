-- The bits of a number under `&`, `|` and `>>`; and the two bits of a permission.
use mathlib.Core.Path.{◌≡◌, refl, sym, ap, ◌∙◌}
use mathlib.Core.Bool.{Bool, true, false, ◌&&◌, ◌||◌}
use Prim.Native.Nat.{ℕ, suc, ◌*◌, ◌/◌, ◌%◌, ◌^◌, min, max}
use native.Mathlib.Nat.{pow-suc, pow-succ', div-div-eq-div-mul}
use native.Mathlib.Omega.{arith}
use lib.Bits.{bit_and, bit_or, and_step, or_step, and_shr, or_shr}
use lib.Dec.{eqb}
use borrow.Author.Tests.{eqb-true, eqb-false}
use Rattle.model.specs.Numbers.{digit}
use Rattle.model.specs.Entry.{perm}
use Rattle.model.specs.Access.{may, may_rows, column_of, write}
use Rattle.model.specs.Apart.{Strength, strict, sharing, grants, grants_any}
use Rattle.laws.proofs.Choices.{split}
use Rattle.laws.proofs.Shifts.{digit_of_shift}
use Rattle.sharing.specs.Masks.{bit, open_bit, reach_bit}
use Rattle.sharing.specs.Crowds.{reach_of}

-- a bit is 0 or 1
eqb_min : (x y : ℕ) → eqb (min (x % 2) (y % 2)) 1 ≡ (eqb (x % 2) 1 && eqb (y % 2) 1)
eqb_min x y =
    split (eqb (x % 2) 1)
    (λ p. split (eqb (y % 2) 1)
    (λ q. rw (eqb-true (x % 2) 1 p, eqb-true (y % 2) 1 q) refl)
    (λ q. let z : y % 2 ≡ 0 = omega (arith, eqb-false (y % 2) 1 q) in rw (eqb-true (x % 2) 1 p, z) refl))
    (λ p. let z : min (x % 2) (y % 2) ≡ 0 = omega (arith, eqb-false (x % 2) 1 p) in rw (z, p) refl)

eqb_max : (x y : ℕ) → eqb (max (x % 2) (y % 2)) 1 ≡ (eqb (x % 2) 1 || eqb (y % 2) 1)
eqb_max x y =
    split (eqb (x % 2) 1)
    (λ p. let o : max (x % 2) (y % 2) ≡ 1 = omega (arith, eqb-true (x % 2) 1 p) in rw (o, p) refl)
    (λ p. let z : x % 2 ≡ 0 = omega (arith, eqb-false (x % 2) 1 p) in
    let o : max (x % 2) (y % 2) ≡ y % 2 = omega arith in rw (o, z) refl)

pub bit_and_lem : (a b k : ℕ) → bit (bit_and a b) k ≡ (bit a k && bit b k)
unfolding bit digit
bit_and_lem a b k =
    ap (λ (x : ℕ). eqb (x % 2) 1) (and_shr a b k)
    ∙ ap (λ (x : ℕ). eqb x 1) (low (a / 2 ^ k) (b / 2 ^ k))
    ∙ eqb_min (a / 2 ^ k) (b / 2 ^ k)
  where
    low : (x y : ℕ) → bit_and x y % 2 ≡ min (x % 2) (y % 2)
    low x y = omega (arith, and_step x y)

pub bit_or_lem : (a b k : ℕ) → bit (bit_or a b) k ≡ (bit a k || bit b k)
unfolding bit digit
bit_or_lem a b k =
    ap (λ (x : ℕ). eqb (x % 2) 1) (or_shr a b k)
    ∙ ap (λ (x : ℕ). eqb x 1) (low (a / 2 ^ k) (b / 2 ^ k))
    ∙ eqb_max (a / 2 ^ k) (b / 2 ^ k)
  where
    low : (x y : ℕ) → bit_or x y % 2 ≡ max (x % 2) (y % 2)
    low x y = omega (arith, or_step x y)

-- shifted down by one
pub bit_half : (x k : ℕ) → bit (x / 2 ^ 1) k ≡ bit x (suc k)
unfolding bit digit
bit_half x k = ap (λ (y : ℕ). eqb (y % 2) 1) (div-div-eq-div-mul x (2 ^ 1) (2 ^ k) ∙ ap (λ (y : ℕ). x / y) (sym (pow-succ' 2 k)))

-- ---- a permission of two bits, which stands at bit k

-- the four of them: both bits, and the permission that they are
module _ (y : ℕ) (P : ℕ → Bool → Bool → Type 0) where
  two_bits : P 0 false false → P 1 true false → P 2 false true → P 3 true true → P (y % 4) (eqb (y % 2) 1) (eqb (y / 2 % 2) 1)
  two_bits none rx rw' rwx =
      let quarter : y / 2 / 2 ≡ y / 4 = div-div-eq-div-mul y 2 2 in
      split (eqb (y % 2) 1)
      (λ p. let a : y % 2 ≡ 1 = eqb-true (y % 2) 1 p in
      split (eqb (y / 2 % 2) 1)
      (λ q. let v : y % 4 ≡ 3 = omega (arith, quarter, eqb-true (y / 2 % 2) 1 q) in rw (v, p, q) rwx)
      (λ q. let v : y % 4 ≡ 1 = omega (arith, quarter, eqb-false (y / 2 % 2) 1 q) in rw (v, p, q) rx))
      (λ p. let a : y % 2 ≡ 0 = omega (arith, eqb-false (y % 2) 1 p) in
      split (eqb (y / 2 % 2) 1)
      (λ q. let v : y % 4 ≡ 2 = omega (arith, quarter, eqb-true (y / 2 % 2) 1 q) in rw (v, p, q) rw')
      (λ q. let v : y % 4 ≡ 0 = omega (arith, quarter, eqb-false (y / 2 % 2) 1 q) in rw (v, p, q) none))

open_bits : (y : ℕ) → grants_any (perm (y % 4)) ≡ (eqb (y % 2) 1 || eqb (y / 2 % 2) 1)
unfolding grants_any grants may may_rows column_of
open_bits y = two_bits y (λ p a b. grants_any (perm p) ≡ (a || b)) refl refl refl refl

write_bits : (y : ℕ) → grants (perm (y % 4)) write ≡ eqb (y / 2 % 2) 1
unfolding grants may may_rows column_of
write_bits y = two_bits y (λ p a b. grants (perm p) write ≡ b) refl refl refl refl

upper : (x k : ℕ) → x / 2 ^ suc k ≡ x / 2 ^ k / 2
upper x k = ap (λ (y : ℕ). x / y) (pow-suc 2 k) ∙ sym (div-div-eq-div-mul x (2 ^ k) 2)

-- by the bits
open_at_lem : (x k : ℕ) → grants_any (perm (x / 2 ^ k % 4)) ≡ open_bit x k
unfolding open_bit bit digit
open_at_lem x k = open_bits (x / 2 ^ k) ∙ ap (λ (y : ℕ). eqb (x / 2 ^ k % 2) 1 || eqb (y % 2) 1) (sym (upper x k))

write_at : (x k : ℕ) → grants (perm (x / 2 ^ k % 4)) write ≡ bit x (suc k)
unfolding bit digit
write_at x k = write_bits (x / 2 ^ k) ∙ ap (λ (y : ℕ). eqb (y % 2) 1) (sym (upper x k))

-- in a number of such permissions, and in an L1 entry
module _ (x i : ℕ) where
  piece_digit : digit 4 x i ≡ x / 2 ^ (2 * i) % 4
  piece_digit = sym (digit_of_shift 2 x i)

  field_digit : digit 16 x i % 4 ≡ x / 2 ^ (4 * i) % 4
  field_digit = ap (λ (y : ℕ). y % 4) (sym (digit_of_shift 4 x i)) ∙ mod_mod (x / 2 ^ (4 * i))
    where
      mod_mod : (y : ℕ) → y % 16 % 4 ≡ y % 4
      mod_mod y = omega arith

  pub open_piece : grants_any (perm (digit 4 x i)) ≡ open_bit x (2 * i)
  open_piece = ap (λ (y : ℕ). grants_any (perm y)) piece_digit ∙ open_at_lem x (2 * i)

  pub open_field : grants_any (perm (digit 16 x i % 4)) ≡ open_bit x (4 * i)
  open_field = ap (λ (y : ℕ). grants_any (perm y)) field_digit ∙ open_at_lem x (4 * i)

  pub reach_piece : (s : Strength) → reach_of s (perm (digit 4 x i)) ≡ reach_bit s x (2 * i)
  unfolding reach_of reach_bit
  reach_piece strict = open_piece
  reach_piece sharing = ap (λ (y : ℕ). grants (perm y) write) piece_digit ∙ write_at x (2 * i)

  pub reach_field : (s : Strength) → reach_of s (perm (digit 16 x i % 4)) ≡ reach_bit s x (4 * i)
  unfolding reach_of reach_bit
  reach_field strict = open_field
  reach_field sharing = ap (λ (y : ℕ). grants (perm y) write) field_digit ∙ write_at x (4 * i)
