-- `entries::rows::pieces_row` meets its contract: the loop keeps `InRow`, and that no entry before place i has an L1 page; the first that has one ends
-- the row.
use mathlib.Core.Path.{◌≡◌, ap, ◌∙◌}
use mathlib.Core.List.{List}
use Prim.Native.Nat.{ℕ, ◌+◌, ◌≤◌, ◌<◌}
use native.Mathlib.Omega.{arith}
use lib.ListN.{get_or}
use Rattle.shapes.proofs.RowLaws.{InRow, row_start, row_ahead, row_next, row_said, one_more}
use Rattle.shapes.specs.Rows.{word_as_pieces}
use Rattle.table.specs.Board.{board}
use Rattle.types.specs.declared.Budget.{Budget}
use Rattle.entries.proofs.rows.pieces_row.Goals as goal

-- no entry up to place i has an L1 page, if none before it has one and w, which is not zero, says the same as its word
none_yet : {m0 m : List ℕ} {left more : Budget} {at i w : ℕ} → InRow (word_as_pieces board) m0 left at m more i
    → ((k : ℕ) → at ≤ k → k < at + i → word_as_pieces board (get_or m0 k 0) ≡ 0 → ⊥) → w ≡ word_as_pieces board (get_or m (at + i) 0) → (w ≡ 0 → ⊥)
    → (k : ℕ) → at ≤ k → k < at + (i + 1) → word_as_pieces board (get_or m0 k 0) ≡ 0 → ⊥
none_yet {m0} {m} {left} {more} {at} {i} s none is some =
    one_more (λ k. word_as_pieces board (get_or m0 k 0) ≡ 0 → ⊥) at i none (λ z. some (is ∙ ap (word_as_pieces board) (s.ahead _ (omega arith)) ∙ z))

pub loop-i-init : goal.loop-i-init
loop-i-init c = (omega arith, row_start, λ k lo hi. absurd (omega arith))

pub put_changed-requires : goal.put_changed-requires
put_changed-requires c =
    let w = c.in-Some in
    let less = c.loop-i-test.true in (
      omega (arith, c.requires.0, c.loop-i.invariant.1.size),
      row_ahead c.loop-i.invariant.1 w.ensures.0 (c.loop-i.i + 1) (omega arith)
          (c.requires.1 (c.loop-i.i + 1) (omega (arith, less)) (none_yet c.loop-i.invariant.1 c.loop-i.invariant.2 w.ensures.0 w.ensures.1)),
    )

pub returns-in_default-put_changed : goal.returns-in_default-put_changed
returns-in_default-put_changed c =
    let w = c.in-Some in
    (omega (arith, c.loop-i-test.true), none_yet c.loop-i.invariant.1 c.loop-i.invariant.2 w.ensures.0 w.ensures.1, row_said c.loop-i.invariant.1 w.ensures.0 c.in_default-put_changed.ensures)

pub loop-i-preserved : goal.loop-i-preserved
loop-i-preserved c =
    let w = c.in-Some in
    (omega (arith, c.loop-i-test.true), row_next c.loop-i.invariant.1 w.ensures.0 c.in-Some-put_changed.ensures, none_yet c.loop-i.invariant.1 c.loop-i.invariant.2 w.ensures.0 w.ensures.1)
