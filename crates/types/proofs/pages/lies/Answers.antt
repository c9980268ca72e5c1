-- `types::pages::lies` meets its contract: each end of the run against each end of the range.
use native.Mathlib.Omega.{arith}
use Rattle.laws.proofs.InRange.{in_true, below_false, above_false}
use Rattle.types.proofs.pages.lies.Goals as goal

pub returns-then-high-start : goal.returns-then-high-start
returns-then-high-start c = λ k lo hi. below_false _ k (omega arith)

pub returns-then-end-low : goal.returns-then-end-low
returns-then-end-low c = λ k lo hi. above_false _ k (omega arith)

pub returns : goal.returns
returns c = λ k lo hi. in_true _ k (omega arith) (omega arith)
