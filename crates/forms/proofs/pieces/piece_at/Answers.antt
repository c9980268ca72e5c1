-- `forms::pieces::piece_at` meets its contract: inside the range, outside it, and across an end.
use mathlib.Core.Path.{refl, sym, ◌∙◌}
use Prim.Native.Nat.{◌+◌, ◌*◌}
use native.Mathlib.Omega.{arith}
use borrow.Author.Tests.{eq-eqb}
use Rattle.table.specs.Board.{PIECE-PAGES}
use Rattle.forms.proofs.BoardShape.{board_shape}
use Rattle.shapes.proofs.EntryLaws.{run_inside}
use Rattle.model.specs.Forms.{after_in}
use Rattle.forms.proofs.pieces.piece_at.Goals as goal

pub returns-in-Inside : goal.returns-in-Inside
unfolding after_in
returns-in-Inside c =
    let a = c.args in
    let q = a.edit.q in
    let h = rw c.in-Inside.is at c.lies.ensures in (
      rw (h (a.block.b * 8192 + a.i * PIECE-PAGES) (omega arith) (omega arith)),
      sym (run_inside _ board_shape _ _ a.edit.fair.small _ c.requires.1 q.permission _ _ (omega arith) h) ∙ eq-eqb q.permission q.permission refl,
      a.edit.fair.small,
    )
