-- `table::register::wpri` meets its contract: quotient and remainder of the register as a number.
use native.Mathlib.Omega.{arith}
use Rattle.model.specs.Register.{wpri_of}
use Rattle.table.proofs.register.wpri.Goals as goal

pub returns : goal.returns
unfolding wpri_of
returns c = (rw c.wide.ensures.0, omega arith)
