-- `apart::who::reached_by` meets its contract: the invariant: no slot passed reaches the page.
use mathlib.Core.Path.{◌≡◌, sym, ap, ◌∙◌}
use Prim.Native.Nat.{ℕ}
use Rattle.model.specs.Calls.{slot_at}
use Rattle.model.specs.Entry.{perm}
use Rattle.sharing.specs.Crowds.{reach_of}
use Rattle.sharing.proofs.SlotRights.{slot_reaches}
use Rattle.sharing.proofs.FirstLaws.{found_next, none_one}
use Rattle.table.specs.Board.{frame_of}
use Rattle.types.specs.Views.{strength_of}
use Rattle.apart.proofs.who.reached_by.Invariants.{test}
use Rattle.apart.proofs.who.reached_by.Goals as goal
use Rattle.apart.proofs.who.reached_by.Goals.{After-reaches}

-- the slot that is looked at
here : (c : After-reaches) → let a = c.args in
    test (frame_of a.f a.words.now) a.words.now a.slots (strength_of a.s) a.page.0 c.loop-i.i ≡ c.reaches.result
unfolding slot_at
here c =
    let a = c.args in
    slot_reaches (frame_of a.f a.words.now) a.words.now a.slots c.loop-i.i a.page.0 (strength_of a.s)
    ∙ ap (λ (p : ℕ). reach_of (strength_of a.s) (perm p)) (sym c.has.ensures) ∙ sym c.reaches.ensures

pub returns-then-reaches : goal.returns-then-reaches
returns-then-reaches c = found_next _ c.loop-i.i c.loop-i.invariant 8 c.loop-i-test.true (here (goal.at.returns-then-reaches c).After-reaches ∙ c.if-reaches.true)

pub loop-i-preserved : goal.loop-i-preserved
loop-i-preserved c =
    let a = c.args in
    none_one (test (frame_of a.f a.words.now) a.words.now a.slots (strength_of a.s) a.page.0) c.loop-i.i c.loop-i.invariant (here (goal.at.loop-i-preserved c).After-reaches ∙ c.if-reaches.false)
