-- `sound::registers` meets its contract: the invariant: the slots that are left, from the marks so far, decide the whole.
use mathlib.Core.Path.{◌≡◌}
use lib.ListN.{drop}
use Rattle.table.specs.Board.{board}
use Rattle.scan.specs.Scan.{scan_all, register_step}
use Rattle.sound.proofs.registers.Given as goal

abbrev pub invariant-loop-r : goal.invariant-loop-r
invariant-loop-r l = scan_all (register_step board) l.initial.sdids l.r-items ≡ scan_all (register_step board) l.sdids (drop l.r-index l.r-items)
