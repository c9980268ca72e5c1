-- `entries::rows::flat_row` meets its contract: the loop keeps `InRow`: the words before place i are done, and the others stand as they were, so that
-- whether one changes is asked of what the call found.
use Prim.Native.Nat.{◌-◌, ◌≤◌}
use Rattle.shapes.proofs.RowLaws.{InRow}
use Rattle.entries.proofs.rows.flat_row.Given as goal

abbrev pub invariant-loop-i : goal.invariant-loop-i
invariant-loop-i l = (l.i ≤ l.n) × InRow (λ w. l.word) l.initial.words l.initial.more l.at l.words l.more l.i

abbrev pub decreases-loop-i : goal.decreases-loop-i
decreases-loop-i l = l.n - l.i
