-- `marks::stands` meets its contract: bit i % 64 of word i / 64.
use Rattle.model.specs.Numbers.{digit}
use Rattle.marks.specs.Marks.{mark_at}
use Rattle.marks.proofs.stands.Goals as goal

pub returns : goal.returns
unfolding mark_at digit
returns c = rw c.pow2.ensures
