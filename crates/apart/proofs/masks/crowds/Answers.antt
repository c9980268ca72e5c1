-- `apart::masks::crowds` meets its contract.
use lib.Bits.{bit_and}
use Rattle.sharing.proofs.MaskLaws.{crowd_mask, crowd_each}
use Rattle.apart.proofs.masks.crowds.Goals as goal

pub returns : goal.returns
returns c = (λ k h. crowd_each (bit_and c.args.masks.twice c.args.masks.reached) c.args.each k h, λ k n d h. crowd_mask c.args.masks c.args.each k n d h)
