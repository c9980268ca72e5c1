-- `apart::reached_table` meets its contract: the invariant: nothing is at fault with the pages passed; before and behind the lent pages there is no table page.
use mathlib.Core.Path.{◌≡◌, sym, ap, ◌∙◌}
use mathlib.Core.Bool.{true, false}
use Prim.Native.Nat.{ℕ, ◌+◌}
use native.Mathlib.Omega.{arith}
use lib.Dec.{ltb}
use borrow.Author.Tests.{ltb-true, ltb-false}
use Rattle.model.specs.Frame as model
use Rattle.model.specs.Frame.{space}
use Rattle.laws.proofs.Choices.{split}
use Rattle.laws.proofs.FrameNumbers.{Bounds, bounds, framed, few_pages}
use Rattle.sharing.specs.Faults.{some}
use Rattle.sharing.proofs.FirstLaws.{none_at_all, found_next}
use Rattle.theory.proofs.Memory.{lent_low, lent_high}
use Rattle.table.specs.Board.{frame_of}
use Rattle.types.specs.Views.{strength_of}
use Rattle.apart.proofs.TableMarks.{not_lent}
use Rattle.apart.proofs.reached_table.Invariants.{test}
use Rattle.apart.proofs.reached_table.Goals as goal
use Rattle.apart.proofs.reached_table.Goals.{Start}

within : (c : Start) → Bounds (frame_of c.args.f c.args.words.now)
within c = let F = frame_of c.args.f c.args.words.now in bounds F (framed F c.args.words.now c.requires.ok_frame).0

-- a page that is not lent
outside : (c : Start) → let a = c.args in let F = frame_of a.f a.words.now in
    (page : ℕ) → (model.lent F page ≡ true → ⊥) → test F a.words.now a.slots (strength_of a.s) page ≡ false
outside c page out = let a = c.args in ap some (not_lent a.f a.words.now a.slots a.free.now c.requires (strength_of a.s) page out)

pub loop-k-init : goal.loop-k-init
loop-k-init c =
    let F = frame_of c.args.f c.args.words.now in
    λ k u. outside (goal.at.loop-k-init c).Start (0 + k) (λ l. omega (arith, lent_low F (0 + k) l))

pub overflow_add-result : goal.overflow_add-result
overflow_add-result c =
    omega (arith, (within (goal.at.overflow_add-result c).Start).room, few_pages c.args.f.paw (within (goal.at.overflow_add-result c).Start).paw_high_lem, c.loop-k-test.true)

pub returns-then-at_fault : goal.returns-then-at_fault
unfolding space
returns-then-at_fault c =
    found_next _ (c.args.f.first.0 + c.loop-k.k) c.loop-k.invariant _ (omega (arith, (within (goal.at.returns-then-at_fault c).Start).room, c.loop-k-test.true)) (sym c.at_fault.ensures ∙ c.if-at_fault.true)

pub returns : goal.returns
returns c =
    let a = c.args in
    let F = frame_of a.f a.words.now in
    none_at_all (test F a.words.now a.slots (strength_of a.s)) 0 (space F)
    (λ k u. split (ltb k (a.f.first.0 + c.loop-k.k))
    (λ z. c.loop-k.invariant k (ltb-true k (a.f.first.0 + c.loop-k.k) z))
    (λ z. outside (goal.at.returns c).Start (0 + k) (λ h. omega (arith, ltb-false k (a.f.first.0 + c.loop-k.k) z, lent_high F (0 + k) h, c.loop-k-test.false))))
