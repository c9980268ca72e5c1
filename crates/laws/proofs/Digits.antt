-- A number and its digits: what is packed is read back.
use mathlib.Core.Path.{◌≡◌, refl, sym, ap, ap₂, ◌∙◌, subst}
use Prim.Native.Nat.{ℕ, zero, suc, ◌+◌, ◌*◌, ◌-◌, ◌/◌, ◌%◌, ◌^◌, ◌≤◌, ◌<◌}
use native.Mathlib.Nat.{le_of_suc-le-suc, not-suc-le-zero, add-zero, zero-add, div-one, pow-zero, pow-suc, pow-succ', add-mul-div_left, add-mul-mod_self_left, div-eq_of_lt, mod-eq_of_lt, mod-lt, div-div-eq-div-mul, mul-le-mul_left, mod-add-div, div-lt_iff_lt-mul, mul_left_comm, mul-one, mul-add}
use native.Mathlib.Omega.{arith}
use Rattle.model.specs.Numbers.{digit, pack}

pub pack_cong : (base : ℕ) (f g : ℕ → ℕ) (n s : ℕ) → ((k : ℕ) → s ≤ k → k < s + n → f k ≡ g k) → pack base f n s ≡ pack base g n s
unfolding pack
pack_cong base f g zero s e = refl
pack_cong base f g (suc n) s e =
    ap₂ (λ (a b : ℕ). a + base * b) (e s (omega arith) (omega arith)) (pack_cong base f g n (suc s) (λ k l u. e k (omega arith) (omega arith)))

pub digit_lt : (base x i : ℕ) → 0 < base → digit base x i < base
unfolding digit
digit_lt base x i h = mod-lt (x / base ^ i) h

pub digit_zero : (base x : ℕ) → digit base x 0 ≡ x % base
unfolding digit
digit_zero base x = ap (λ (k : ℕ). x / k % base) (pow-zero base) ∙ ap (λ (k : ℕ). k % base) (div-one x)

pub digit_suc : (base x i : ℕ) → digit base x (suc i) ≡ digit base (x / base) i
unfolding digit
digit_suc base x i = ap (λ (k : ℕ). k % base) (ap (λ (k : ℕ). x / k) (pow-succ' base i) ∙ sym (div-div-eq-div-mul x base (base ^ i)))

module _ (base : ℕ) (f : ℕ → ℕ) (low : (k : ℕ) → f k < base) where
  pos : 0 < base
  pos = omega (arith, low 0)

  pub pack_lt : (n s : ℕ) → pack base f n s < base ^ n
  unfolding pack
  pack_lt zero s = subst (λ (k : ℕ). 0 < k) (sym (pow-zero base)) (omega arith)
  pack_lt (suc n) s =
      let more : base * suc (pack base f n (suc s)) ≤ base * base ^ n = mul-le-mul_left base (pack_lt n (suc s)) in
      rw (pow-succ' base n) (omega (arith, more, low s))

  pub digit_pack : (n s i : ℕ) → i < n → digit base (pack base f n s) i ≡ f (s + i)
  unfolding pack
  digit_pack zero s i h = absurd (not-suc-le-zero h)
  digit_pack (suc n) s zero h =
      digit_zero base _ ∙ add-mul-mod_self_left (f s) base (pack base f n (suc s)) ∙ mod-eq_of_lt (low s) ∙ ap f (sym (add-zero s))
  digit_pack (suc n) s (suc i) h =
      let e : (f s + base * pack base f n (suc s)) / base ≡ pack base f n (suc s)
      = add-mul-div_left (f s) (pack base f n (suc s)) pos ∙ ap (λ (k : ℕ). k + pack base f n (suc s)) (div-eq_of_lt (low s)) ∙ zero-add _ in
      let t : suc s + i ≡ s + suc i = omega arith in
      digit_suc base _ i ∙ ap (λ (k : ℕ). digit base k i) e ∙ digit_pack n (suc s) i (le_of_suc-le-suc h) ∙ ap f t

-- a number is what its digits pack
pub pack_digit : (base : ℕ) → 0 < base → (n x s : ℕ) → x < base ^ n → pack base (λ k. digit base x (k - s)) n s ≡ x
unfolding pack
pack_digit base pos zero x s h = omega (arith, rw pow-zero at h)
pack_digit base pos (suc n) x s h =
    let z : s - s ≡ 0 = omega arith in
    let small : x / base < base ^ n = (div-lt_iff_lt-mul pos).1 (rw pow-suc at h) in
    let rest : pack base (λ k. digit base x (k - s)) n (suc s) ≡ x / base
    = pack_cong base (λ k. digit base x (k - s)) (λ k. digit base (x / base) (k - suc s)) n (suc s)
    (λ k l u. let e : k - s ≡ suc (k - suc s) = omega arith in ap (digit base x) e ∙ digit_suc base x (k - suc s))
    ∙ pack_digit base pos n (x / base) (suc s) small in
    ap₂ (λ (a b : ℕ). a + base * b) (ap (digit base x) z ∙ digit_zero base x) rest ∙ mod-add-div x base

-- one digit throughout: as many times the number whose digits are all 1
pub pack_one : (base p n s t : ℕ) → pack base (λ k. p) n s ≡ p * pack base (λ k. 1) n t
unfolding pack
pack_one base p zero s t = omega arith
pack_one base p (suc n) s t =
    let r : ℕ = pack base (λ k. 1) n (suc t) in
    ap (λ (k : ℕ). p + base * k) (pack_one base p n (suc s) (suc t))
    ∙ ap (λ (k : ℕ). p + k) (mul_left_comm base p r)
    ∙ ap (λ (k : ℕ). k + p * (base * r)) (sym (mul-one p))
    ∙ sym (mul-add p 1 (base * r))

-- so each digit of it is that one
pub digit_one : (base w n i : ℕ) → 0 < base → w ≡ w % base * pack base (λ k. 1) n 0 → i < n → digit base w i ≡ w % base
digit_one base w n i pos e h =
    ap (λ (k : ℕ). digit base k i) (e ∙ sym (pack_one base (w % base) n 0 0)) ∙ digit_pack base (λ k. w % base) (λ k. mod-lt w pos) n 0 i h
