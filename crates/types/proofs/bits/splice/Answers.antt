-- `types::bits::splice`: a power of two as the unit; the sum fits, since the high part and what is below the unit make at most what 64 bits hold.
use mathlib.Core.Path.{◌≡◌, ap, sym, subst}
use Prim.Native.Nat.{ℕ, ◌+◌, ◌*◌, ◌/◌, ◌%◌, ◌^◌, ◌<◌}
use native.Mathlib.Omega.{arith}
use Rattle.laws.proofs.Splices.{spliced, splice_lt}
use Rattle.types.proofs.bits.splice.Goals as goal
use Rattle.types.proofs.bits.splice.Goals.{After-pow2-unit}

-- the result, with the power of two in its place
same : (c : After-pow2-unit) → let a = c.args in let u = c.pow2-unit.result in a.low % u + a.high / u * u ≡ spliced 2 a.k a.low a.high
same c = let a = c.args in ap (λ (p : ℕ). a.low % p + a.high / p * p) c.pow2-unit.ensures

fits_word : (c : After-pow2-unit) → let a = c.args in let u = c.pow2-unit.result in a.low % u + a.high / u * u < 2 ^ 64
fits_word c = let a = c.args in subst (λ (w : ℕ). w < 2 ^ 64) (sym (same c)) (splice_lt 2 (omega arith) a.k 64 a.low a.high (omega arith) (omega arith))

pub overflow_add-result : goal.overflow_add-result
overflow_add-result c = record { fits = fits_word c }
