-- `forms::pieces::piece_is` meets its contract: inside the range, outside it, and across an end.
use native.Mathlib.Omega.{arith}
use Rattle.forms.proofs.BoardShape.{board_shape}
use Rattle.shapes.proofs.EntryLaws.{run_inside}
use Rattle.forms.proofs.pieces.piece_is.Goals as goal

pub returns-in-Inside : goal.returns-in-Inside
returns-in-Inside c =
    run_inside _ board_shape _ _ c.args.edit.fair.small _ c.requires.2 _ _ _ (omega arith) (rw c.in-Inside.is at c.lies.ensures)
