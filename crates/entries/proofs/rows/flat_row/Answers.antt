-- `entries::rows::flat_row` meets its contract: the loop keeps `InRow`: the words before place i are done, and the others stand as they were, so that
-- whether one changes is asked of what the call found.
use mathlib.Core.Path.{refl}
use native.Mathlib.Omega.{arith}
use Rattle.shapes.proofs.RowLaws.{row_start, row_ahead, row_next, row_cut}
use Rattle.entries.proofs.rows.flat_row.Goals as goal

pub loop-i-init : goal.loop-i-init
loop-i-init c = (omega arith, row_start)

pub put_changed-requires : goal.put_changed-requires
put_changed-requires c = (
  omega (arith, c.requires.0, c.loop-i.invariant.1.size),
  row_ahead c.loop-i.invariant.1 refl c.args.n c.loop-i-test.true c.requires.1,
)

pub returns-in_err-more : goal.returns-in_err-more
returns-in_err-more c = rw c.from_residual.ensures (row_cut c.loop-i.invariant.1 refl c.in_err-more.ensures _ c.loop-i-test.true)

pub loop-i-preserved : goal.loop-i-preserved
loop-i-preserved c = (omega (arith, c.loop-i-test.true), row_next c.loop-i.invariant.1 refl c.in_ok-more.ensures)
