-- `apart::who::partner` meets its contract: the invariant: no slot passed shares the page so.
use mathlib.Core.Path.{◌≡◌, refl, sym, ap₂, ◌∙◌}
use Prim.Native.Nat.{ℕ, ◌+◌}
use native.Mathlib.Omega.{arith}
use borrow.Author.Tests.{lt-ltb, le-ltb}
use Rattle.model.specs.Calls.{slot_at}
use Rattle.sharing.specs.Faults.{meet}
use Rattle.sharing.proofs.PairFaults.{pair_meets}
use Rattle.sharing.proofs.FirstLaws.{found_next, none_one}
use Rattle.table.specs.Board.{frame_of}
use Rattle.types.specs.Views.{strength_of}
use Rattle.apart.proofs.who.partner.Invariants.{test}
use Rattle.apart.proofs.who.partner.Goals as goal
use Rattle.apart.proofs.who.partner.Goals.{After-meets}

-- the slot that is looked at
here : (c : After-meets) → let a = c.args in
    test (frame_of a.f a.words.now) a.words.now a.slots (strength_of a.s) a.page.0 a.i c.loop-j.j ≡ c.meets.result
unfolding slot_at
here c =
    let a = c.args in
    pair_meets (frame_of a.f a.words.now) a.words.now a.slots (strength_of a.s) a.page.0 a.i c.loop-j.j
    ∙ rw (lt-ltb a.i c.loop-j.j c.loop-j.invariant.0) (ap₂ (λ (x y : ℕ). meet (strength_of a.s) x y) (sym c.has-p.ensures) (sym c.has.ensures) ∙ sym c.meets.ensures)

pub loop-j-init : goal.loop-j-init
loop-j-init c =
    let a = c.args in (
      omega arith,
      λ k u.
          pair_meets (frame_of a.f a.words.now) a.words.now a.slots (strength_of a.s) a.page.0 a.i (0 + k) ∙ rw (le-ltb a.i (0 + k) (omega arith)) refl,
    )

pub returns-then-meets : goal.returns-then-meets
returns-then-meets c = found_next _ c.loop-j.j c.loop-j.invariant.1 8 c.loop-j-test.true (here (goal.at.returns-then-meets c).After-meets ∙ c.if-meets.true)

pub loop-j-preserved : goal.loop-j-preserved
loop-j-preserved c =
    let a = c.args in (
      omega (arith, c.loop-j.invariant.0),
      none_one (test (frame_of a.f a.words.now) a.words.now a.slots (strength_of a.s) a.page.0 a.i) c.loop-j.j c.loop-j.invariant.1 (here (goal.at.loop-j-preserved c).After-meets ∙ c.if-meets.false),
    )
