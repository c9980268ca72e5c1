-- `types::pages::blocks_outside` meets its contract: a block after the end of the range, or before its start, has no page in it.
use native.Mathlib.Omega.{arith}
use Rattle.laws.proofs.InRange.{above_false, below_false}
use Rattle.types.proofs.pages.blocks_outside.Goals as goal

pub returns-then-q-b : goal.returns-then-q-b
returns-then-q-b c = (omega arith, λ k lo hi. above_false _ k (omega arith))

pub returns : goal.returns
returns c = (omega (arith, c.cut.ensures.few), λ k lo hi. below_false _ k (omega (arith, c.cut.ensures.below)))
