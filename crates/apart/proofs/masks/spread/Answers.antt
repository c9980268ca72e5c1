-- `apart::masks::spread` meets its contract: the bit is 0 or 1, and the number that has 1 in each field is taken as often.
use Rattle.apart.proofs.EachBits.{spread_bit}
use Prim.Native.Nat.{◌*◌}
use Rattle.apart.proofs.masks.spread.Goals as goal

pub returns : goal.returns
returns c = λ j u. spread_bit c.args.bits (2 * c.args.i) j u
