-- `entries::rows::fill` meets its contract: the loop keeps `Filled`: so many stores of the row are made, in order.
use Prim.Native.Nat.{◌-◌, ◌≤◌}
use Rattle.shapes.proofs.RowLaws.{Filled}
use Rattle.entries.proofs.rows.fill.Given as goal

abbrev pub invariant-loop-i : goal.invariant-loop-i
invariant-loop-i l = (l.i ≤ l.n) × Filled l.word l.initial.words l.initial.rest l.at l.words l.rest l.i

abbrev pub decreases-loop-i : goal.decreases-loop-i
decreases-loop-i l = l.n - l.i
