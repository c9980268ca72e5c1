-- `forms::pieces::piece_first` meets its contract: the first field of the piece's first entry.
use mathlib.Core.Path.{◌∙◌}
use Rattle.forms.proofs.FirstPage.{first_of_piece}
use Rattle.types.specs.Views.{entry_of}
use Rattle.forms.proofs.pieces.piece_first.Goals as goal

pub returns : goal.returns
returns c = let a = c.args in first_of_piece a.edit a.words.now (entry_of a.block.e) a.block.b a.i c.requires.1 (c.wide.ensures.0 ∙ c.after_word.ensures)
