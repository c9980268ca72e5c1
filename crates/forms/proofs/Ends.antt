-- The ends of a range of whole pages, as the laws have them: rounded up to a page, which changes nothing.
use mathlib.Core.Path.{◌≡◌}
use Prim.Native.Nat.{◌+◌, ◌/◌}
use native.Mathlib.Omega.{arith}
use Rattle.laws.proofs.InRange.{first_page, past_page}
use Rattle.types.specs.Range.{Fair}
use Rattle.types.specs.Views.{request_of}
use Rattle.types.specs.declared.Request.{Request}

module _ {q : Request} (fair : Fair q) where
  pub first_up : q.start.0 / 4096 ≡ first_page (request_of q)
  first_up = omega (arith, fair.starts)

  pub past_up : (q.start.0 + q.size) / 4096 ≡ past_page (request_of q)
  past_up = omega (arith, fair.starts, fair.whole)

  pub not_empty : first_page (request_of q) ≡ past_page (request_of q) → ⊥
  not_empty z = omega (arith, z, fair.starts, fair.whole, fair.some)
