-- `sound::entries` meets its contract: the invariant: the entries that are left, from the marks so far, decide the whole.
use mathlib.Core.Path.{◌≡◌}
use Prim.Native.Nat.{◌-◌}
use Rattle.table.specs.Board.{frame_of}
use Rattle.scan.specs.Scan.{scan_run, word_step}
use Rattle.sound.proofs.entries.Given as goal

abbrev pub invariant-loop-word : goal.invariant-loop-word
invariant-loop-word l =
    scan_run (word_step (frame_of l.f l.words) l.words l.start) l.initial.free (l.end - l.start) 0
    ≡ scan_run (word_step (frame_of l.f l.words) l.words l.start) l.free (l.end - l.start - l.word-index) l.word-index
