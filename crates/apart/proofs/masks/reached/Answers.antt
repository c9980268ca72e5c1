-- `apart::masks::reached` meets its contract: the upper bit, and for strict either.
use Rattle.sharing.specs.Masks.{reach_bit}
use Rattle.sharing.proofs.Bits.{bit_half}
use Rattle.apart.proofs.masks.reached.Goals as goal

pub returns-in-Strict : goal.returns-in-Strict
unfolding reach_bit
returns-in-Strict c = rw c.in-Strict.is c.opened.ensures

pub returns-in-Sharing : goal.returns-in-Sharing
unfolding reach_bit
returns-in-Sharing c = rw c.in-Sharing.is (λ k. bit_half c.args.bits k)
