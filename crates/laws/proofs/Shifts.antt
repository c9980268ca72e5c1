-- Digits by shifts: what `>>` and `%` read of a word is one of its digits.
use mathlib.Core.Path.{◌≡◌, sym, ap, ◌∙◌}
use Prim.Native.Nat.{ℕ, zero, suc, ◌*◌, ◌/◌, ◌%◌, ◌^◌}
use native.Mathlib.Nat.{mul-zero, mul-suc, pow-zero, pow-suc}
use lib.Pow.{pow-add}
use Rattle.model.specs.Numbers.{digit}

pow_times : (a c i : ℕ) → a ^ (c * i) ≡ (a ^ c) ^ i
pow_times a c zero = ap (λ (k : ℕ). a ^ k) (mul-zero c) ∙ pow-zero a ∙ sym (pow-zero (a ^ c))
pow_times a c (suc i) =
    ap (λ (k : ℕ). a ^ k) (mul-suc c i) ∙ pow-add a (c * i) c ∙ ap (λ (k : ℕ). k * a ^ c) (pow_times a c i) ∙ sym (pow-suc (a ^ c) i)

-- digits of c bits
pub digit_of_shift : (c x i : ℕ) → x / 2 ^ (c * i) % 2 ^ c ≡ digit (2 ^ c) x i
unfolding digit
digit_of_shift c x i = ap (λ (k : ℕ). x / k % 2 ^ c) (pow_times 2 c i)
