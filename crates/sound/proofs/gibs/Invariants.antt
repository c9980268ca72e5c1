-- `sound::gibs` meets its contract: the invariant: whole GiBs are left, and they decide the whole from the marks so far.
use mathlib.Core.Path.{◌≡◌}
use Prim.Native.Nat.{◌-◌, ◌%◌}
use Rattle.model.specs.Layout.{gib_blocks}
use Rattle.table.specs.Board.{frame_of}
use Rattle.scan.specs.Scan.{scan_run, word_step}
use Rattle.scan.proofs.Loops.{left}
use Rattle.sound.proofs.gibs.Given as goal

abbrev pub invariant-loop-at : goal.invariant-loop-at
invariant-loop-at l =
    ((l.end - l.at) % gib_blocks ≡ 0)
    × (scan_run (word_step (frame_of l.f l.words) l.words l.start) l.initial.free (l.end - l.start) 0 ≡ left (frame_of l.f l.words) l.words l.start l.end l.at l.free)
