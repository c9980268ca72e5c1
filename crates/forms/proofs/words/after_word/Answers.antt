-- `forms::words::after_word` meets its contract: inside the range, outside it, and across an end.
use mathlib.Core.Path.{◌∙◌}
use native.Mathlib.Omega.{arith}
use Rattle.forms.proofs.BoardShape.{board_shape}
use Rattle.shapes.proofs.EntryLaws.{word_inside, word_outside, word_across}
use Rattle.forms.proofs.words.after_word.Goals as goal

pub returns-in-Inside : goal.returns-in-Inside
returns-in-Inside c =
    c.spread.ensures ∙ word_inside _ board_shape _ _ c.args.edit.fair.small _ c.requires.1 _ _ (rw c.in-Inside.is at c.lies.ensures)

pub returns-in-Outside : goal.returns-in-Outside
returns-in-Outside c =
    c.old_word.ensures
    ∙ word_outside _ board_shape _ _ c.args.edit.fair.small _ c.requires.1 _ _ c.requires.0 (omega arith) (rw c.in-Outside.is at c.lies.ensures)

pub returns-in-Across : goal.returns-in-Across
returns-in-Across c =
    (rw c.old_word-in-Across.ensures at c.mixed_word.ensures)
    ∙ word_across _ board_shape _ _ c.args.edit.fair.small _ c.requires.1 _ _ c.requires.0 (omega arith)
