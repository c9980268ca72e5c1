-- `sound::claim` meets its contract: a lent page has a place among the 256 marks.
use mathlib.Core.Path.{◌≡◌, sym, ◌∙◌}
use mathlib.Core.Bool.{true}
use Prim.Native.Nat.{◌+◌, ◌≤◌, ◌<◌}
use native.Mathlib.Omega.{arith}
use Rattle.model.specs.Frame.{lent}
use Rattle.table.specs.Board.{frame_over}
use Rattle.laws.proofs.FrameNumbers.{bounds, lent_in}
use Rattle.scan.specs.Scan.{claim_of, take_mark}
use Rattle.scan.proofs.Loops.{unlent_claim}
use Rattle.sound.proofs.claim.Goals as goal
use Rattle.sound.proofs.claim.Goals.{Then-is_lent}

lent_here : (c : Then-is_lent) → let a = c.args in lent (frame_over a.f a.n) a.page.0 ≡ true
lent_here c = sym c.is_lent.ensures ∙ c.if-is_lent.true

-- the page's place among the marks
inside : (c : Then-is_lent) → let a = c.args in (a.f.first.0 ≤ a.page.0) × (a.page.0 < a.f.first.0 + 256)
inside c =
    let h = lent_in _ _ (lent_here c) in
    let b = bounds _ c.requires in
    (h.0, omega arith)

pub overflow_sub-page : goal.overflow_sub-page
overflow_sub-page c = let h = inside (goal.at.overflow_sub-page c).Then-is_lent in omega arith

pub take-requires : goal.take-requires
take-requires c = let h = inside (goal.at.take-requires c).Then-is_lent in omega arith

pub returns-then-is_lent : goal.returns-then-is_lent
unfolding claim_of take_mark
returns-then-is_lent c = rw (lent_here (goal.at.returns-then-is_lent c).Then-is_lent, c.take.ensures.0, c.take.ensures.1)

pub returns : goal.returns
returns c = unlent_claim _ _ _ (sym c.is_lent.ensures ∙ c.if-is_lent.false)
