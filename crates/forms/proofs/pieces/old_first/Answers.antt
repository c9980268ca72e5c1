-- `forms::pieces::old_first` meets its contract: outside the range the first field is the old one.
use mathlib.Core.Path.{◌∙◌}
use Prim.Native.Nat.{◌*◌}
use native.Mathlib.Omega.{arith}
use Rattle.table.specs.Board.{PIECE-WORDS}
use Rattle.forms.proofs.BoardShape.{board_shape}
use Rattle.forms.proofs.FirstPage.{first_of_piece}
use Rattle.shapes.proofs.EntryLaws.{word_outside}
use Rattle.types.specs.Views.{entry_of}
use Rattle.forms.proofs.pieces.old_first.Goals as goal

pub returns : goal.returns
returns c =
    let a = c.args in
    let pre = c.requires in
    first_of_piece a.edit a.words.now (entry_of a.block.e) a.block.b a.i pre.1
    (c.wide.ensures.0
    ∙ c.old_word.ensures
    ∙ word_outside _ board_shape _ _ a.edit.fair.small _ pre.1 a.block.b (a.i * PIECE-WORDS) (omega arith)
    (omega arith) (λ k lo hi. pre.2 k (omega arith) (omega arith)))
