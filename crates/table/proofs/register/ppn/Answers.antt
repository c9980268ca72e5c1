-- `table::register::ppn` meets its contract: remainder of the register as a number.
use native.Mathlib.Omega.{arith}
use Rattle.model.specs.Register.{ppn_of}
use Rattle.table.proofs.register.ppn.Goals as goal

pub returns : goal.returns
unfolding ppn_of
returns c = (rw c.wide.ensures.0, omega arith)
