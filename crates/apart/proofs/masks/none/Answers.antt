-- `apart::masks::none` meets its contract: no bit of 0 is set.
use Rattle.sharing.proofs.MaskLaws.{counted_none}
use Rattle.apart.proofs.masks.none.Goals as goal

pub returns : goal.returns
returns c = counted_none
