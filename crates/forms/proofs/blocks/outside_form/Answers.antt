-- `forms::blocks::outside_form` meets its contract: outside the range the form is what the entry says, by pieces.
use mathlib.Core.Path.{ap}
use Rattle.forms.proofs.BoardShape.{board_shape}
use Rattle.shapes.proofs.FormLaws.{form_flat_out, form_pieces_out}
use Rattle.types.specs.Views.{entry_of}
use Rattle.forms.proofs.blocks.outside_form.Goals as goal

pub returns-in-Flat : goal.returns-in-Flat
returns-in-Flat c =
    form_flat_out _ board_shape _ _ c.args.edit.fair.small _ c.requires.0 _ c.requires.1 _ (ap entry_of c.in-Flat.is)

pub returns-in-Pieces : goal.returns-in-Pieces
returns-in-Pieces c =
    form_pieces_out _ board_shape _ _ c.args.edit.fair.small _ c.requires.0 _ c.requires.1 _ (ap entry_of c.in-Pieces.is)
    (rw c.in-Pieces.is at c.requires.0)
