-- `entries::own::same_table` meets its contract: the loop keeps `Same`: the entries that are left decide the whole page, and those that lie outside
-- the range have no store in the list.
use Prim.Native.Nat.{◌-◌}
use Rattle.shapes.proofs.OwnPage.{Same}
use Rattle.types.specs.Views.{request_of}
use Rattle.table.specs.Board.{frame_over}
use Rattle.entries.proofs.own.same_table.Given as goal

abbrev pub invariant-loop-i : goal.invariant-loop-i
invariant-loop-i l = Same (frame_over l.edit.f) (request_of l.edit.q) l.t.0 l.b l.initial.words l.initial.more l.words l.more l.i

abbrev pub decreases-loop-i : goal.decreases-loop-i
decreases-loop-i l = l.to - l.i
