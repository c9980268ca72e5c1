-- The cause of a fault is a small number.
use Prim.Native.Nat.{◌≤◌}
use native.Mathlib.Omega.{arith}
use Rattle.types.specs.declared.Cause.{Cause}
use Rattle.types.specs.declared.Cause.TheVariants.{Fetch, Load, Store}
use Rattle.types.specs.Views.{cause_number}

pub cause_small : (c : Cause) → cause_number c ≤ 7
cause_small Fetch = omega arith
cause_small Load = omega arith
cause_small Store = omega arith
