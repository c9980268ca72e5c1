-- `marks::lowest_bit` meets its contract: the lowest set digit is behind the zeros at the word's end.
use mathlib.Core.Path.{◌≡◌}
use Prim.Native.Nat.{◌<◌}
use lib.Count.{count_trailing_zeros}
use Rattle.model.specs.Numbers.{digit}
use Rattle.laws.proofs.BinaryDigits.{lowest_set, lowest_below}
use Rattle.marks.proofs.lowest_bit.Goals as goal
use Rattle.marks.proofs.lowest_bit.Goals.{Start}

found : (c : Start) → (count_trailing_zeros 64 c.args.word < 64) × (digit 2 c.args.word (count_trailing_zeros 64 c.args.word) ≡ 1)
found c = lowest_set 64 c.args.word c.requires c.ranges.word.fits

pub returns : goal.returns
returns c = record { within = (found c).0; is_set = (found c).1; below = λ k h. lowest_below 64 c.args.word k h }
