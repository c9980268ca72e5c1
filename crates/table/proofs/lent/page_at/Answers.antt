-- `table::lent::page_at` meets its contract: a lent page is one of the pages from the first, so its words are inside.
use native.Mathlib.Omega.{arith}
use Rattle.model.specs.Frame.{index_of}
use Rattle.laws.proofs.FrameNumbers.{lent_in}
use Rattle.table.proofs.lent.page_at.Goals as goal

pub overflow_sub-result : goal.overflow_sub-result
overflow_sub-result c = let h = lent_in _ _ c.requires in omega arith

pub overflow_mul-result : goal.overflow_mul-result
overflow_mul-result c = let h = lent_in _ _ c.requires in omega arith

pub returns : goal.returns
unfolding index_of
returns c = let h = lent_in _ _ c.requires in omega arith
