-- `entries::own::own_table` meets its contract: outside the range no entry changes, so there is nothing to store.
use native.Mathlib.Omega.{arith}
use Rattle.forms.proofs.BoardShape.{board_shape}
use Rattle.shapes.proofs.OwnPage.{own_none}
use Rattle.entries.proofs.own.own_table.Goals as goal

pub returns-in-Outside : goal.returns-in-Outside
returns-in-Outside c =
    let a = c.args in
    own_none (record { shape = board_shape; long = omega arith; typed = λ j. omega (arith, c.type_inv.words j); low = c.args.edit.fair.small; good = c.requires.1 }) a.b
    (rw c.in-Outside.is at c.lies.ensures) a.left
