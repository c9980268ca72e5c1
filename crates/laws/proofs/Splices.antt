-- A number spliced from two: the digits below k of one, and from k on those of the other.
use mathlib.Core.Path.{◌≡◌, sym, ap, ◌∙◌, subst}
use Prim.Native.Nat.{ℕ, zero, suc, ◌+◌, ◌*◌, ◌-◌, ◌/◌, ◌%◌, ◌^◌, ◌≤◌, ◌<◌}
use native.Mathlib.Nat.{le_of_suc-le-suc, not-suc-le-zero, zero-add, pow-zero, pow-suc, pow-succ', one-le-pow, add-mul-div_left, add-mul-mod_self_left, div-eq_of_lt, mod-lt, mod-mod, div-div-eq-div-mul, mul_comm, mul_left_comm, mul-add, mul-le-mul_left, div-lt_iff_lt-mul}
use native.Mathlib.Omega.{arith}
use lib.Arith.{mod-mul}
use lib.Dec.{ltb}
use borrow.Author.Tests.{ltb-true, ltb-false}
use Rattle.model.specs.Numbers.{digit, pack}
use Rattle.laws.proofs.Choices.{split}
use Rattle.laws.proofs.Digits.{digit_zero, digit_suc, pack_cong, pack_digit}

abbrev pub spliced : ℕ → ℕ → ℕ → ℕ → ℕ
spliced base k x y = x % base ^ k + y / base ^ k * base ^ k

module _ (base : ℕ) (pos : 0 < base) where
  splice_zero : (x y : ℕ) → spliced base 0 x y ≡ y
  splice_zero x y = ap (λ (p : ℕ). x % p + y / p * p) (pow-zero base) ∙ omega arith

  -- the lowest digit, and the rest spliced
  splice_suc : (k x y : ℕ) → spliced base (suc k) x y ≡ x % base + base * spliced base k (x / base) (y / base)
  splice_suc k x y =
      let P : ℕ = base ^ k in
      let low : x % base ^ suc k ≡ x / base % P * base + x % base = ap (λ (p : ℕ). x % p) (pow-suc base k) ∙ mod-mul x (one-le-pow k base pos) pos in
      let high : y / base ^ suc k * base ^ suc k ≡ base * (y / base / P * P)
      = ap (λ (p : ℕ). y / p * p) (pow-succ' base k) ∙ ap (λ (z : ℕ). z * (base * P)) (sym (div-div-eq-div-mul y base P)) ∙ mul_left_comm (y / base / P) base P in
      omega (arith, low, high, mul_comm (x / base % P) base, mul-add base (x / base % P) (y / base / P * P))

  splice_div : (k x y : ℕ) → spliced base (suc k) x y / base ≡ spliced base k (x / base) (y / base)
  splice_div k x y =
      let t : ℕ = spliced base k (x / base) (y / base) in
      ap (λ (z : ℕ). z / base) (splice_suc k x y) ∙ add-mul-div_left (x % base) t pos ∙ ap (λ (z : ℕ). z + t) (div-eq_of_lt (mod-lt x pos)) ∙ zero-add t

  pub splice_below : (k x y i : ℕ) → i < k → digit base (spliced base k x y) i ≡ digit base x i
  splice_below zero x y i h = absurd (not-suc-le-zero h)
  splice_below (suc k) x y zero h =
      digit_zero base _ ∙ ap (λ (z : ℕ). z % base) (splice_suc k x y) ∙ add-mul-mod_self_left (x % base) base _ ∙ mod-mod x base ∙ sym (digit_zero base x)
  splice_below (suc k) x y (suc i) h =
      digit_suc base _ i ∙ ap (λ (z : ℕ). digit base z i) (splice_div k x y) ∙ splice_below k (x / base) (y / base) i (le_of_suc-le-suc h) ∙ sym (digit_suc base x i)

  pub splice_from : (k x y i : ℕ) → k ≤ i → digit base (spliced base k x y) i ≡ digit base y i
  splice_from zero x y i h = ap (λ (z : ℕ). digit base z i) (splice_zero x y)
  splice_from (suc k) x y zero h = absurd (not-suc-le-zero h)
  splice_from (suc k) x y (suc i) h =
      digit_suc base _ i ∙ ap (λ (z : ℕ). digit base z i) (splice_div k x y) ∙ splice_from k (x / base) (y / base) i (le_of_suc-le-suc h) ∙ sym (digit_suc base y i)

  pub splice_lt : (k n x y : ℕ) → k ≤ n → y < base ^ n → spliced base k x y < base ^ n
  splice_lt zero n x y h l = subst (λ (z : ℕ). z < base ^ n) (sym (splice_zero x y)) l
  splice_lt (suc k) zero x y h l = absurd (not-suc-le-zero h)
  splice_lt (suc k) (suc n) x y h l =
      let small : y / base < base ^ n = (div-lt_iff_lt-mul pos).1 (rw pow-suc at l) in
      let t : ℕ = spliced base k (x / base) (y / base) in
      let more : base * suc t ≤ base * base ^ n = mul-le-mul_left base (splice_lt k n (x / base) (y / base) (le_of_suc-le-suc h) small) in
      omega (arith, more, splice_suc k x y, pow-succ' base n, mod-lt x pos, mul-add base t 1)

  -- the number whose n digits are those of x, but from lo to hi those of y
  module _ (n s lo hi x y : ℕ) (f : ℕ → ℕ) where
    pub band_pack : hi ≤ n → x < base ^ n
        → ((i : ℕ) → i < n → i < lo → f (s + i) ≡ digit base x i)
        → ((i : ℕ) → i < n → lo ≤ i → i < hi → f (s + i) ≡ digit base y i)
        → ((i : ℕ) → i < n → hi ≤ i → f (s + i) ≡ digit base x i)
        → spliced base hi (spliced base lo x y) x ≡ pack base f n s
    band_pack top small below within above =
        let r : ℕ = spliced base hi (spliced base lo x y) x in
        sym (pack_digit base pos n r s (splice_lt hi n (spliced base lo x y) x top small))
        ∙ pack_cong base (λ k. digit base r (k - s)) f n s
        (λ k l u. let z : s + (k - s) ≡ k = omega arith in sym (here (k - s) (omega arith)) ∙ ap f z)
      where
        here : (i : ℕ) → i < n → f (s + i) ≡ digit base (spliced base hi (spliced base lo x y) x) i
        here i h =
            split (ltb i hi)
            (λ a. split (ltb i lo)
            (λ b. below i h (ltb-true i lo b) ∙ sym (splice_below lo x y i (ltb-true i lo b)) ∙ sym (splice_below hi (spliced base lo x y) x i (ltb-true i hi a)))
            (λ b. within i h (ltb-false i lo b) (ltb-true i hi a) ∙ sym (splice_from lo x y i (ltb-false i lo b)) ∙ sym (splice_below hi (spliced base lo x y) x i (ltb-true i hi a))))
            (λ a. above i h (ltb-false i hi a) ∙ sym (splice_from hi (spliced base lo x y) x i (ltb-false i hi a)))
