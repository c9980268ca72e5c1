-- `entries::fresh::new_entries` meets its contract: the loop keeps `New`: the entries that are left decide the whole run.
use Prim.Native.Nat.{◌-◌}
use Rattle.shapes.proofs.NewPage.{New}
use Rattle.table.specs.Board.{frame_over}
use Rattle.types.specs.Views.{entry_of, request_of}
use Rattle.entries.proofs.fresh.new_entries.Given as goal

abbrev pub invariant-loop-i : goal.invariant-loop-i
invariant-loop-i l = New (frame_over l.edit.f) (request_of l.edit.q) (entry_of l.new.block.e) l.new.block.b l.new.page.0 l.initial.words l.initial.more l.from l.to l.words l.more l.i

abbrev pub decreases-loop-i : goal.decreases-loop-i
decreases-loop-i l = l.to - l.i
