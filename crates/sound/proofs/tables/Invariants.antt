-- `sound::tables` meets its contract: the invariant: the slots that are left, from the marks so far, decide the whole.
use mathlib.Core.Path.{◌≡◌}
use lib.ListN.{drop}
use Rattle.table.specs.Board.{frame_of}
use Rattle.scan.specs.Scan.{scan_all, slot_step}
use Rattle.sound.proofs.tables.Given as goal

abbrev pub invariant-loop-r : goal.invariant-loop-r
invariant-loop-r l =
    scan_all (slot_step (frame_of l.f l.words) l.words) l.initial.free l.r-items ≡ scan_all (slot_step (frame_of l.f l.words) l.words) l.free (drop l.r-index l.r-items)
