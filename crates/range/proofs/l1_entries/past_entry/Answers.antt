-- `range::l1_entries::past_entry` meets its contract: an entry that begins at the end or after it has no page of the range.
use native.Mathlib.Omega.{arith}
use Rattle.laws.proofs.InRange.{above_false}
use Rattle.range.proofs.l1_entries.past_entry.Goals as goal

pub returns : goal.returns
returns c = (c.cut.ensures.few, λ k lo hi. above_false _ k (omega (arith, c.cut.ensures.past (omega arith))))
