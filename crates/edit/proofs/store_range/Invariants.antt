-- `edit::store_range` meets its contract: before each step of the loop the edit stands before block b (`LoopInvariant`), so that the stores that
-- are left decide the whole; past the last block none is left.
use Prim.Native.Nat.{◌-◌}
use Rattle.sequence.proofs.LoopInvariant.{LoopInvariant}
use Rattle.types.specs.Views.{request_of, free_list}
use Rattle.table.specs.Board.{frame_over}
use Rattle.edit.proofs.store_range.Given as goal

abbrev pub invariant-loop-b : goal.invariant-loop-b
invariant-loop-b l = LoopInvariant (frame_over l.edit.f) l.initial.words (request_of l.edit.q) l.edit.root.0 (free_list l.free) l.initial.left l.end l.words l.b l.gib l.next l.left

abbrev pub decreases-loop-b : goal.decreases-loop-b
decreases-loop-b l = l.end - l.b
