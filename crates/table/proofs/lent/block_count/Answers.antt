-- `table::lent::block_count` meets its contract: a shift by PAW - 25, which is 9 at the most.
use native.Mathlib.Omega.{arith}
use Rattle.model.specs.Frame.{blocks}
use Rattle.laws.proofs.FrameNumbers.{bounds, few_blocks}
use Rattle.table.proofs.lent.block_count.Goals as goal

pub overflow_sub-f : goal.overflow_sub-f
overflow_sub-f c = let h = bounds _ c.requires in omega arith

pub pow2-requires : goal.pow2-requires
pow2-requires c = let h = bounds _ c.requires in omega arith

pub returns : goal.returns
unfolding blocks
returns c = let h = bounds _ c.requires in
    (c.pow2.ensures, omega (arith, c.pow2.ensures, few_blocks _ h.paw_high_lem))
