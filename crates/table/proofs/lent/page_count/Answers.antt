-- `table::lent::page_count` meets its contract: a shift by PAW - 12, which is 22 at the most.
use native.Mathlib.Omega.{arith}
use Rattle.model.specs.Frame.{space}
use Rattle.laws.proofs.FrameNumbers.{bounds, few_pages}
use Rattle.table.proofs.lent.page_count.Goals as goal

pub overflow_sub-f : goal.overflow_sub-f
overflow_sub-f c = let h = bounds _ c.requires in omega arith

pub pow2-requires : goal.pow2-requires
pow2-requires c = let h = bounds _ c.requires in omega arith

pub returns : goal.returns
unfolding space
returns c = let h = bounds _ c.requires in
    (c.pow2.ensures, omega (arith, c.pow2.ensures, few_pages _ h.paw_high_lem))
