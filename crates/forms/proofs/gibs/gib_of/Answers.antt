-- `forms::gibs::gib_of` meets its contract: a GiB wholly in the range is of the asked permission.
use mathlib.Core.Path.{sym}
use Rattle.forms.proofs.BoardShape.{board_shape}
use Rattle.shapes.proofs.GibLaws.{inside_first, inside_one}
use Rattle.forms.proofs.gibs.gib_of.Goals as goal

pub returns-in-Inside : goal.returns-in-Inside
returns-in-Inside c =
    let fair = c.args.edit.fair in
    let pre = c.requires in
    let h = rw c.in-Inside.is at c.lies.ensures in (
      inside_first board_shape pre.0 _ fair.small _ pre.1 h,
      sym (inside_one board_shape pre.0 _ fair.small _ pre.1 h),
      fair.small,
    )
