-- `table::register::mode` meets its contract: quotient of the register as a number, which is below a word's bound.
use native.Mathlib.Omega.{arith}
use Rattle.model.specs.Register.{mode_of}
use Rattle.table.proofs.register.mode.Goals as goal

pub returns : goal.returns
unfolding mode_of
returns c = (rw c.wide.ensures.0, omega (arith, c.wide.ensures.1))
