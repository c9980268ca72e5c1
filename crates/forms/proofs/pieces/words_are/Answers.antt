-- `forms::pieces::words_are` meets its contract: the entries that are left decide the whole piece.
use mathlib.Core.Path.{sym, ◌∙◌}
use Prim.Native.Nat.{◌+◌}
use native.Mathlib.Omega.{arith}
use borrow.Author.Tests.{eq-eqb, ne_eqb}
use Rattle.forms.proofs.BoardShape.{board_shape}
use Rattle.shapes.proofs.EntryLaws.{word_is, words_next, words_stop, all_none}
use Rattle.forms.proofs.pieces.words_are.Goals as goal

pub returns-then-after_word-want : goal.returns-then-after_word-want
returns-then-after_word-want c =
    let a = c.args in
    let pre = c.requires in
    let j = c.loop-j.j in
    sym (c.loop-j.invariant
    ∙ words_stop _ board_shape _ _ a.edit.fair.small _ pre.2 a.block.b a.i j a.p (omega arith)
    (sym (word_is _ board_shape _ _ a.edit.fair.small _ pre.2 a.block.b (a.i + j) a.p pre.1) ∙ ne_eqb _ _ (rw (c.after_word.ensures, c.spread-want.ensures) at c.if-after_word-want.true)))

pub loop-j-preserved : goal.loop-j-preserved
loop-j-preserved c =
    let a = c.args in
    let pre = c.requires in
    let j = c.loop-j.j in
    c.loop-j.invariant
    ∙ words_next _ board_shape _ _ a.edit.fair.small _ pre.2 a.block.b a.i j a.p (omega arith)
    (sym (word_is _ board_shape _ _ a.edit.fair.small _ pre.2 a.block.b (a.i + j) a.p pre.1) ∙ eq-eqb _ _ (rw (c.after_word.ensures, c.spread-want.ensures) at c.if-after_word-want.false))

pub returns : goal.returns
returns c =
    sym (c.loop-j.invariant ∙ all_none _ board_shape _ _ c.args.edit.fair.small _ c.requires.2 c.args.p _ _ (omega arith))
