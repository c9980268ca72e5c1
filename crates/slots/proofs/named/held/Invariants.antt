-- `slots::named::held` meets its contract: the invariant: the slots that are left decide whether one holds the SDID.
use mathlib.Core.Path.{◌≡◌}
use lib.ListN.{drop}
use Rattle.model.specs.Numbers.{member}
use Rattle.table.specs.Board.{board}
use Rattle.shapes.specs.Slots.{open_sdids}
use Rattle.slots.proofs.named.held.Given as goal

abbrev pub invariant-loop-slot : goal.invariant-loop-slot
invariant-loop-slot l = member l.sdid.0 (open_sdids board l.slot-items) ≡ member l.sdid.0 (open_sdids board (drop l.slot-index l.slot-items))
