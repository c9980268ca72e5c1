-- `apart::crowd::gather` meets its contract: the invariant: what the slots passed have of the block is gathered.
use Prim.Native.Nat.{◌≤◌}
use Rattle.sharing.specs.Crowds.{GatheredAll}
use Rattle.table.specs.Board.{frame_of}
use Rattle.types.specs.Views.{strength_of}
use Rattle.apart.proofs.crowd.gather.Given as goal

abbrev pub invariant-loop-r : goal.invariant-loop-r
invariant-loop-r l =
    (l.count ≤ l.r-index) × GatheredAll (frame_of l.f l.words) l.words (strength_of l.s) l.fn.slots l.b l.r-index (record { even = l.even; tables = l.tables; count = l.count })
