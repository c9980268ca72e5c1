-- `range::l1_entries::first_entry` meets its contract: an entry below the one that holds the start ends before the range.
use native.Mathlib.Omega.{arith}
use Rattle.laws.proofs.InRange.{below_false}
use Rattle.range.proofs.l1_entries.first_entry.Goals as goal

pub returns : goal.returns
returns c = (c.cut.ensures.few, λ k hi lo. below_false _ k (omega arith))
