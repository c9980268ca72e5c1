-- Binary digits: one that is set and then taken out, and the lowest that is set.
use mathlib.Core.Path.{◌≡◌, refl, sym, ap, ◌∙◌}
use Prim.Native.Nat.{ℕ, zero, suc, ◌-◌, ◌/◌, ◌%◌, ◌≤◌, ◌<◌, ◌^◌, zero-le, suc-le-suc}
use native.Mathlib.Nat.{pow-zero, pow-suc, le_of_suc-le-suc}
use native.Mathlib.Omega.{arith}
use lib.Count.{count_trailing_zeros, under}
use Rattle.model.specs.Numbers.{digit}
use Rattle.laws.proofs.Digits.{digit_zero, digit_suc}

-- no digit of 0 is set
pub none_set : (k : ℕ) → digit 2 0 k ≡ 0
none_set zero = digit_zero 2 0
none_set (suc k) = digit_suc 2 0 k ∙ none_set k

-- a number with digit k set holds its power
pub set_low : (k w : ℕ) → digit 2 w k ≡ 1 → 2 ^ k ≤ w
set_low zero w h = omega (arith, sym (digit_zero 2 w) ∙ h)
set_low (suc k) w h = omega (arith, pow-suc 2 k, set_low k (w / 2) (sym (digit_suc 2 w k) ∙ h))

-- a digit that is set, taken out: it is not set any more, and all others are as they were
half_without : (k w : ℕ) → (w - 2 ^ suc k) / 2 ≡ w / 2 - 2 ^ k
half_without k w = omega (arith, pow-suc 2 k)

pub taken_digit : (k w : ℕ) → digit 2 w k ≡ 1 → digit 2 (w - 2 ^ k) k ≡ 0
taken_digit zero w h =
    let even : (w - 2 ^ 0) % 2 ≡ 0 = omega (arith, pow-zero 2, sym (digit_zero 2 w) ∙ h) in
    digit_zero 2 (w - 2 ^ 0) ∙ even
taken_digit (suc k) w h =
    digit_suc 2 (w - 2 ^ suc k) k ∙ ap (λ (x : ℕ). digit 2 x k) (half_without k w) ∙ taken_digit k (w / 2) (sym (digit_suc 2 w k) ∙ h)

pub other_digit : (k w j : ℕ) → digit 2 w k ≡ 1 → (j ≡ k → ⊥) → digit 2 (w - 2 ^ k) j ≡ digit 2 w j
other_digit zero w zero h ne = absurd (ne refl)
other_digit zero w (suc j) h ne =
    let half : (w - 2 ^ 0) / 2 ≡ w / 2 = omega (arith, pow-zero 2, sym (digit_zero 2 w) ∙ h) in
    digit_suc 2 (w - 2 ^ 0) j ∙ ap (λ (x : ℕ). digit 2 x j) half ∙ sym (digit_suc 2 w j)
other_digit (suc k) w zero h ne =
    let same : (w - 2 ^ suc k) % 2 ≡ w % 2 = omega (arith, pow-suc 2 k, set_low (suc k) w h) in
    digit_zero 2 (w - 2 ^ suc k) ∙ same ∙ sym (digit_zero 2 w)
other_digit (suc k) w (suc j) h ne =
    digit_suc 2 (w - 2 ^ suc k) j
    ∙ ap (λ (x : ℕ). digit 2 x j) (half_without k w)
    ∙ other_digit k (w / 2) j (sym (digit_suc 2 w k) ∙ h) (λ e. ne (ap suc e))
    ∙ sym (digit_suc 2 w j)

-- the lowest digit that is set, of a number with one among its d lowest
pub lowest_set : (d n : ℕ) → 0 < n → n < 2 ^ d → (count_trailing_zeros d n < d) × (digit 2 n (count_trailing_zeros d n) ≡ 1)
unfolding count_trailing_zeros
lowest_set zero n p h = absurd (omega arith)
lowest_set (suc d) n p h = go (n % 2) refl (λ e. lowest_set d (n / 2) (omega arith) (omega (arith, pow-suc 2 d)))
  where
    go : (r : ℕ) → n % 2 ≡ r → (n % 2 ≡ 0 → (count_trailing_zeros d (n / 2) < d) × (digit 2 (n / 2) (count_trailing_zeros d (n / 2)) ≡ 1))
        → (under r (count_trailing_zeros d (n / 2)) < suc d) × (digit 2 n (under r (count_trailing_zeros d (n / 2))) ≡ 1)
    go zero e rest = (suc-le-suc (rest e).0, digit_suc 2 n (count_trailing_zeros d (n / 2)) ∙ (rest e).1)
    go (suc r) e rest = let odd : n % 2 ≡ 1 = omega arith in (suc-le-suc zero-le, digit_zero 2 n ∙ odd)

-- and below it none is
pub lowest_below : (d n j : ℕ) → j < count_trailing_zeros d n → digit 2 n j ≡ 0
unfolding count_trailing_zeros
lowest_below zero n j h = absurd (omega arith)
lowest_below (suc d) n j h = go (n % 2) refl j (λ i l. lowest_below d (n / 2) i l) h
  where
    go : (r : ℕ) → n % 2 ≡ r → (j : ℕ) → ((i : ℕ) → i < count_trailing_zeros d (n / 2) → digit 2 (n / 2) i ≡ 0) → j < under r (count_trailing_zeros d (n / 2)) → digit 2 n j ≡ 0
    go zero e zero rest l = digit_zero 2 n ∙ e
    go zero e (suc j) rest l = digit_suc 2 n j ∙ rest j (le_of_suc-le-suc l)
    go (suc r) e j rest l = absurd (omega arith)
