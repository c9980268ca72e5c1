-- `entries::rows::fill` meets its contract: the loop keeps `Filled`: so many stores of the row are made, in order.
use mathlib.Core.List.{[], ◌∷◌}
use native.Mathlib.Omega.{arith}
use Rattle.shapes.proofs.Order.{ahead_joined}
use Rattle.shapes.proofs.RowLaws.{fill_start, fill_next}
use Rattle.table.specs.Stored.{store_of}
use Rattle.entries.proofs.rows.fill.Goals as goal

pub loop-i-init : goal.loop-i-init
loop-i-init c = (omega arith, fill_start)

pub put_next-rest-requires : goal.put_next-rest-requires
put_next-rest-requires c = (
  omega (arith, c.requires.0, c.loop-i.invariant.1.size),
  omega (arith, c.requires.1, c.loop-i.invariant.1.count),
  ahead_joined c.args.left (λ k. store_of k c.args.word ∷ []) c.args.n c.args.at c.loop-i.i c.loop-i-test.true c.requires.2 c.loop-i.invariant.1.done,
)

pub loop-i-preserved : goal.loop-i-preserved
loop-i-preserved c =
    let r = c.put_next-rest in
    (omega (arith, c.loop-i-test.true), fill_next c.loop-i.invariant.1 r.ensures.0)
