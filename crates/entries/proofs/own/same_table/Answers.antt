-- `entries::own::same_table` meets its contract: the loop keeps `Same`: the entries that are left decide the whole page, and those that lie outside
-- the range have no store in the list.
use native.Mathlib.Omega.{arith}
use Rattle.shapes.proofs.OwnPage.{same_start, same_good, same_ahead, same_next, same_cut, same_end}
use Rattle.forms.proofs.BoardShape.{board_shape}
use Rattle.entries.proofs.own.same_table.Goals as goal

pub loop-i-init : goal.loop-i-init
loop-i-init c =
    let r = c.first_entry-from in
    same_start (record { shape = board_shape; long = omega arith; typed = λ j. omega (arith, c.type_inv.words j); low = c.args.edit.fair.small; good = c.requires.1 })
    r.result r.ensures.0 r.ensures.1 c.requires.2

pub same_entry-requires : goal.same_entry-requires
same_entry-requires c = (
  c.requires.0,
  omega (arith, c.past_entry-to.ensures.0),
  same_good c.loop-i.invariant,
  same_ahead c.loop-i.invariant (omega (arith, c.past_entry-to.ensures.0, c.loop-i-test.true)),
)

pub returns-in_err-more : goal.returns-in_err-more
returns-in_err-more c = rw c.from_residual.ensures (same_cut c.loop-i.invariant (omega (arith, c.past_entry-to.ensures.0, c.loop-i-test.true)) c.in_err-more.ensures)

pub loop-i-preserved : goal.loop-i-preserved
loop-i-preserved c = same_next c.loop-i.invariant (omega (arith, c.past_entry-to.ensures.0, c.loop-i-test.true)) c.in_ok-more.ensures

pub returns : goal.returns
returns c =
    same_end c.loop-i.invariant _ c.past_entry-to.ensures.1 c.loop-i-test.false
