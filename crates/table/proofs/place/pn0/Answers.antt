-- `table::place::pn0` meets its contract: the definition's own remainder, in the board's number.
use mathlib.Core.Path.{refl}
use native.Mathlib.Omega.{arith}
use Rattle.model.specs.Walk.{pn0}
use Rattle.table.proofs.place.pn0.Goals as goal

pub returns : goal.returns
unfolding pn0
returns c = (refl, omega arith)
