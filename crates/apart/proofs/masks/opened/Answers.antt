-- `apart::masks::opened` meets its contract: either of the two bits.
use Rattle.sharing.proofs.MaskLaws.{open_mask}
use Rattle.apart.proofs.masks.opened.Goals as goal

pub returns : goal.returns
returns c = λ k. open_mask c.args.bits k
