-- Numbers by their digits, and runs of a test: what the laws of entries and of forms are made from.
use mathlib.Core.Path.{◌≡◌, sym, ap, ap₂, ◌∙◌}
use mathlib.Core.Bool.{Bool, true, false, ◌&&◌, true≢false}
use mathlib.Core.List.{List}
use Prim.Native.Nat.{ℕ, zero, suc, ◌+◌, ◌*◌, ◌-◌, ◌/◌, ◌^◌, ◌≤◌, ◌<◌}
use native.Mathlib.Nat.{mul-zero, mul-suc, mul-add, add-mul, mul_assoc, mul-one, one-mul, suc-mul, pow-zero, pow-suc, pow-succ', lt_of_lt_of_le, pow-le-pow_right, mul-div_cancel, le-div_iff_mul-le, div-lt_iff_lt-mul}
use native.Mathlib.Omega.{arith}
use native.Mathlib.Numerals.{add-one}
use lib.Pow.{pow-add}
use Rattle.model.specs.Layout.{Layout}
use Rattle.shapes.specs.Words.{ones, mixed_at}
use Rattle.laws.proofs.Choices.{split, and_both}
use Rattle.laws.proofs.Digits.{pack_lt, pack_one, digit_pack}
use Rattle.laws.proofs.Every.{every_step, every_in}
use Rattle.laws.proofs.FieldLaws.{field_clean}
use Rattle.model.specs.Entry.{Entry, clean, field_of}
use Rattle.model.specs.Forms.{Request, in_range, perm_of}
use Rattle.model.specs.Frame.{Frame}
use Rattle.model.specs.Numbers.{every, digit, pack}
use Rattle.model.specs.Walk.{found}

-- a power of a power
pub pow_times : (a c i : ℕ) → a ^ (c * i) ≡ (a ^ c) ^ i
pow_times a c zero = ap (λ (k : ℕ). a ^ k) (mul-zero c) ∙ pow-zero a ∙ sym (pow-zero (a ^ c))
pow_times a c (suc i) = ap (λ (k : ℕ). a ^ k) (mul-suc c i) ∙ pow-add a (c * i) c ∙ ap (λ (k : ℕ). k * a ^ c) (pow_times a c i) ∙ sym (pow-suc (a ^ c) i)

-- a quotient rounded up
module _ (x n : ℕ) {d : ℕ} (pos : 0 < d) where
  pub ceil_gt : n < (x + (d - 1)) / d → n * d < x
  ceil_gt h = omega (arith, (le-div_iff_mul-le {x = suc n} {y = x + (d - 1)} pos).0 h, suc-mul n d)

  pub ceil_le : (x + (d - 1)) / d ≤ n → x ≤ n * d
  ceil_le h = omega (arith, (div-lt_iff_lt-mul {x = x + (d - 1)} {y = suc n} pos).0 (omega arith), suc-mul n d)

-- ---- one digit throughout

-- 11..1 in base d + 1, d times, is one less than a power
ones_times : (d n s : ℕ) → pack (suc d) (λ k. 1) n s * d + 1 ≡ suc d ^ n
unfolding pack
ones_times d zero s = omega (arith, pow-zero (suc d))
ones_times d (suc n) s =
    let P : ℕ = pack (suc d) (λ k. 1) n (suc s) in
    let more : suc d * (P * d + 1) ≡ suc d * suc d ^ n = ap (λ (k : ℕ). suc d * k) (ones_times d n (suc s)) in
    omega (arith, more, pow-succ' (suc d) n, add-mul 1 (suc d * P) d, one-mul d, mul_assoc (suc d) P d, mul-add (suc d) (P * d) 1, mul-one (suc d))

pub pack_const : (d p n s : ℕ) → 0 < d → pack (suc d) (λ k. p) n s ≡ p * ones (suc d) n
pack_const d p n s pos =
    let P : ℕ = pack (suc d) (λ k. 1) n 0 in
    let a : P * d ≡ suc d ^ n - 1 = omega (arith, ones_times d n 0) in
    let b : suc d - 1 ≡ d = omega arith in
    pack_one (suc d) p n s 0 ∙ ap (λ (k : ℕ). p * k) (sym (mul-div_cancel P pos) ∙ ap₂ (λ (x y : ℕ). x / y) a (sym b))

-- so each digit of it is that one
pub const_digit : (d p n i : ℕ) → 0 < d → p < suc d → i < n → digit (suc d) (p * ones (suc d) n) i ≡ p
const_digit d p n i pos low h = ap (λ (w : ℕ). digit (suc d) w i) (sym (pack_const d p n 0 pos)) ∙ digit_pack (suc d) (λ k. p) (λ k. low) n 0 i h

-- ---- a number put together from its highest digit down

module _ (base : ℕ) (f : ℕ → ℕ) where
  pub horner : (n s j word x : ℕ) → j < n → word ≡ pack base f j (s + n - j) → x ≡ f (s + (n - 1 - j)) → x + base * word ≡ pack base f (j + 1) (s + n - (j + 1))
  unfolding pack
  horner n s j word x h e z =
      let a : s + (n - 1 - j) ≡ s + n - (j + 1) = omega arith in
      let b : s + n - j ≡ suc (s + n - (j + 1)) = omega arith in
      ap₂ (λ (u v : ℕ). u + base * v) (z ∙ ap f a) (e ∙ ap (pack base f j) b)
      ∙ ap (λ (k : ℕ). pack base f k (s + n - (j + 1))) (sym (add-one j))

pub outside : (q : Request) (old s k : ℕ) → in_range q (s + k) ≡ false → digit 16 old k ≡ mixed_at q old s (s + k)
outside q old s k out = let e : k ≡ s + k - s = omega arith in rw out (ap (digit 16 old) e)

pub pack_fits : (base : ℕ) (f : ℕ → ℕ) → ((k : ℕ) → f k < base) → (n j s : ℕ) → j ≤ n → pack base f j s < base ^ n
pack_fits base f low n j s h = lt_of_lt_of_le (pack_lt base f low j s) (pow-le-pow_right {n = base} (omega (arith, low 0)) {i = j} {j = n} h)

-- ---- the fields of an L1 entry before the edit

abbrev pub old : Frame → List ℕ → Entry → ℕ → ℕ
old F m e n = perm_of (found F m e n)

-- the permission of a field of an entry without a reserved bit
pub field_perm : (L : Layout) (w i : ℕ) → clean L w ≡ true → i < L.fields → perm_of (field_of L w i) ≡ digit 16 w i
unfolding perm_of
field_perm L w i h l = ap perm_of (field_clean L w i l h)

-- ---- a test of a run: what is left of it at i

module _ (test : ℕ → Bool) (n s i : ℕ) (h : i < n) where
  every_first : every test (n - i) (s + i) ≡ (test (s + i) && every test (n - (i + 1)) (s + (i + 1)))
  every_first =
      let a : n - i ≡ suc (n - (i + 1)) = omega arith in
      let b : suc (s + i) ≡ s + (i + 1) = omega arith in
      ap (λ (k : ℕ). every test k (s + i)) a
      ∙ every_step test (n - (i + 1)) (s + i)
      ∙ ap (λ (k : ℕ). test (s + i) && every test (n - (i + 1)) k) b

  pub every_next : test (s + i) ≡ true → every test (n - i) (s + i) ≡ every test (n - (i + 1)) (s + (i + 1))
  every_next z = every_first ∙ rw z

  pub every_stop : test (s + i) ≡ false → every test (n - i) (s + i) ≡ false
  every_stop z = every_first ∙ rw z

pub every_none : (test : ℕ → Bool) (n s : ℕ) → n ≡ 0 → every test n s ≡ true
unfolding every
every_none test n s z = ap (λ (k : ℕ). every test k s) z

-- and from the highest down

pub every_down : (test : ℕ → Bool) (n j : ℕ) → j < n → every test j (n - j) ≡ true → test (n - 1 - j) ≡ true → every test (j + 1) (n - (j + 1)) ≡ true
every_down test n j h e z =
    let a : n - 1 - j ≡ n - (j + 1) = omega arith in
    let b : n - j ≡ suc (n - (j + 1)) = omega arith in
    ap (λ (k : ℕ). every test k (n - (j + 1))) (add-one j)
    ∙ every_step test j (n - (j + 1))
    ∙ and_both (ap test (sym a) ∙ z) (ap (every test j) (sym b) ∙ e)

pub every_fail : (test : ℕ → Bool) (n k : ℕ) → k < n → test k ≡ false → every test n 0 ≡ false
every_fail test n k h z = split (every test n 0) (λ y. absurd (true≢false (sym (every_in test n 0 y k (omega arith) (omega arith)) ∙ z))) (λ y. y)
