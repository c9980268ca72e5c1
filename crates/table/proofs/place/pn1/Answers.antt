-- `table::place::pn1` meets its contract: the definition's own quotient and remainder, in the board's numbers.
use mathlib.Core.Path.{refl}
use native.Mathlib.Omega.{arith}
use Rattle.model.specs.Walk.{pn1}
use Rattle.table.proofs.place.pn1.Goals as goal

pub returns : goal.returns
unfolding pn1
returns c = (refl, omega arith)
