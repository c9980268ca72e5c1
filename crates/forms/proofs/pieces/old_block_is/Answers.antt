-- `forms::pieces::old_block_is` meets its contract: by what the block's entry says; with an L1 page, by its pieces.
use Prim.Native.Nat.{◌<◌}
use native.Mathlib.Omega.{arith}
use Rattle.table.specs.Board.{PIECE-INFO}
use Rattle.forms.proofs.BoardShape.{board_shape}
use Rattle.shapes.proofs.EntryLaws.{run_outside}
use Rattle.shapes.proofs.EvenLaws.{even_is, even_pieces}
use Rattle.model.specs.Forms.{perm_of}
use Rattle.model.specs.Walk.{found}
use Rattle.forms.proofs.pieces.old_block_is.Goals as goal

pub returns-in-Flat : goal.returns-in-Flat
unfolding found perm_of
returns-in-Flat c =
    run_outside _ board_shape _ _ c.args.edit.fair.small _ c.requires.1 _ _ _ _ (omega arith) c.requires.2 (λ k lo hi. rw c.in-Flat.is)

pub returns-in-Pieces : goal.returns-in-Pieces
returns-in-Pieces c =
    let h : c.in-Pieces.info < PIECE-INFO = rw c.in-Pieces.is at c.requires.1 in
    rw c.in-Pieces.is (even_is _ board_shape _ _ c.args.edit.fair.small _ h _ _ h (even_pieces _ board_shape _ _ _) _ c.requires.0 c.requires.2)
