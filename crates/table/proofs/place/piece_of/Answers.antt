-- `table::place::piece_of` meets its contract: the definition's own remainder and quotient, in the board's numbers.
use mathlib.Core.Path.{refl}
use native.Mathlib.Omega.{arith}
use Rattle.model.specs.Walk.{piece_of}
use Rattle.table.proofs.place.piece_of.Goals as goal

pub returns : goal.returns
unfolding piece_of
returns c = (refl, omega arith)
