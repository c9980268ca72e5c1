-- `slots::zero::zero_page` meets its contract: the invariant: zeroing the words that are left gives the zeroed page.
use mathlib.Core.Path.{◌≡◌}
use Prim.Native.Nat.{◌+◌, ◌-◌, ◌≤◌}
use lib.ListN.{length}
use Rattle.slots.specs.ZeroPage.{zeroed}
use Rattle.slots.proofs.ZeroLoop.{left}
use Rattle.table.specs.Board.{PAGE-WORDS}
use Rattle.slots.proofs.zero.zero_page.Given as goal

abbrev pub invariant-loop-i : goal.invariant-loop-i
invariant-loop-i l = (l.i ≤ PAGE-WORDS) × (l.at + PAGE-WORDS ≤ length l.words) × (length l.words ≡ length l.initial.words) × (zeroed l.initial.words l.at ≡ left l.words l.at l.i)

abbrev pub decreases-loop-i : goal.decreases-loop-i
decreases-loop-i l = PAGE-WORDS - l.i
