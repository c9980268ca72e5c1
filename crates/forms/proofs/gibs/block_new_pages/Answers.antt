-- `forms::gibs::block_new_pages` meets its contract: a block inside the range takes no page.
use Rattle.table.specs.Board.{frame_of}
use Rattle.forms.proofs.BoardShape.{board_shape}
use Rattle.shapes.proofs.FormLaws.{form_inside}
use Rattle.types.specs.Views.{request_of}
use Rattle.model.specs.Stores.{needs_page}
use Rattle.forms.proofs.gibs.block_new_pages.Goals as goal

pub returns-in-Inside : goal.returns-in-Inside
unfolding needs_page
returns-in-Inside c =
    let a = c.args in
    rw (← form_inside (frame_of a.edit.f a.words.now) board_shape a.words.now (request_of a.edit.q) a.edit.fair.small _ (c.requires.0.good a.b c.requires.1) a.b (rw c.in-Inside.is at c.lies.ensures))
