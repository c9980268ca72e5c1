-- `forms::blocks::across_form` meets its contract: an entry without an L1 page is of whole pieces.
use Prim.Native.Nat.{◌<◌}
use native.Mathlib.Omega.{arith}
use Rattle.table.specs.Board.{PIECE-INFO}
use Rattle.forms.proofs.BoardShape.{board_shape}
use Rattle.shapes.proofs.EvenLaws.{even_flat, even_pieces}
use Rattle.forms.proofs.blocks.across_form.Goals as goal

pub even_form-requires : goal.even_form-requires
even_form-requires c =
    let p = c.in-Flat.p in
    let h : p < 4 = rw c.in-Flat.is at c.requires in
    (c.requires, omega arith, rw c.in-Flat.is (even_flat _ _ p _ h))

pub even_form-requires-in-Pieces : goal.even_form-requires-in-Pieces
even_form-requires-in-Pieces c =
    let h : c.in-Pieces.info < PIECE-INFO = rw c.in-Pieces.is at c.requires in
    (c.requires, h, rw c.in-Pieces.is (even_pieces _ board_shape _ _ _))
