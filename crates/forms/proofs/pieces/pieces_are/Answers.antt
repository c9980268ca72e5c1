-- `forms::pieces::pieces_are` meets its contract: the pieces that are left decide the whole block.
use mathlib.Core.Path.{sym, ◌∙◌}
use native.Mathlib.Omega.{arith}
use Rattle.forms.proofs.BoardShape.{board_shape}
use Rattle.shapes.proofs.EntryLaws.{pieces_next, pieces_stop, all_none}
use Rattle.forms.proofs.pieces.pieces_are.Goals as goal

pub returns-then-not-piece_is : goal.returns-then-not-piece_is
returns-then-not-piece_is c =
    let a = c.args in
    sym (c.loop-i.invariant
    ∙ pieces_stop _ board_shape _ _ a.edit.fair.small _ c.requires.1 a.block.b c.loop-i.i a.p (omega arith) (rw c.piece_is.ensures at c.if-not-piece_is.true))

pub loop-i-preserved : goal.loop-i-preserved
loop-i-preserved c =
    let a = c.args in
    c.loop-i.invariant
    ∙ pieces_next _ board_shape _ _ a.edit.fair.small _ c.requires.1 a.block.b c.loop-i.i a.p (omega arith) (rw c.piece_is.ensures at c.if-not-piece_is.false)

pub returns : goal.returns
returns c = sym (c.loop-i.invariant ∙ all_none _ board_shape _ _ c.args.edit.fair.small _ c.requires.1 c.args.p _ _ (omega arith))
