-- `entries::rows::pieces_row` meets its contract: the loop keeps `InRow`, and that no entry before place i has an L1 page; the first that has one ends
-- the row.
use mathlib.Core.Path.{◌≡◌}
use Prim.Native.Nat.{ℕ, ◌+◌, ◌-◌, ◌≤◌, ◌<◌}
use lib.ListN.{get_or}
use Rattle.shapes.proofs.RowLaws.{InRow}
use Rattle.shapes.specs.Rows.{word_as_pieces}
use Rattle.table.specs.Board.{board}
use Rattle.entries.proofs.rows.pieces_row.Given as goal

abbrev pub invariant-loop-i : goal.invariant-loop-i
invariant-loop-i l =
    (l.i ≤ l.n) × InRow (word_as_pieces board) l.initial.words l.initial.more l.at l.words l.more l.i × ((k : ℕ) → l.at ≤ k → k < l.at + l.i → word_as_pieces board (get_or l.initial.words k 0) ≡ 0 → ⊥)

abbrev pub decreases-loop-i : goal.decreases-loop-i
decreases-loop-i l = l.n - l.i
