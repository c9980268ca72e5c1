-- `table::register::sdid` meets its contract: quotient and remainder of the register as a number.
use native.Mathlib.Omega.{arith}
use Rattle.model.specs.Register.{sdid_of}
use Rattle.table.proofs.register.sdid.Goals as goal

pub returns : goal.returns
unfolding sdid_of
returns c = (rw c.wide.ensures.0, omega arith)
