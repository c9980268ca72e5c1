-- `forms::blocks::block_form` meets its contract: a GiB of one permission, and else inside the range, outside it, and across an end.
use Rattle.shapes.proofs.FormLaws.{form_flat, form_inside}
use Rattle.forms.proofs.BoardShape.{board_shape}
use Rattle.model.specs.Numbers.{pack}
use Rattle.forms.proofs.blocks.block_form.Goals as goal

pub returns-in-Some : goal.returns-in-Some
returns-in-Some c =
    rw c.in-Some.is (form_flat _ _ _ _ _ _)

pub returns-in-Inside : goal.returns-in-Inside
unfolding pack
returns-in-Inside c =
    rw c.in_default.is (form_inside _ board_shape _ _ c.args.edit.fair.small _ c.requires _ (rw c.in-Inside.is at c.lies.ensures))
