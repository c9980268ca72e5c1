-- `apart::masks::add` meets its contract: one slot more.
use Rattle.sharing.proofs.MaskLaws.{counted_more}
use Rattle.apart.proofs.masks.add.Goals as goal

pub returns : goal.returns
returns c = let a = c.args in λ k n d h. counted_more a.masks k n d h _ _ _ _ (c.opened-more.ensures k) (c.reached.ensures k)
