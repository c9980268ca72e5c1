-- `apart::who::pair_fault` meets its contract: the invariant: no slot passed is the lower of two that share the page so.
use mathlib.Core.Path.{◌≡◌, sym, ap, ap₂, ◌∙◌}
use mathlib.Core.Bool.{Bool, ◌||◌}
use Prim.Native.Nat.{ℕ}
use native.Mathlib.Omega.{arith}
use Rattle.model.specs.Access.{write}
use Rattle.model.specs.Apart.{page_shared, grants}
use Rattle.model.specs.Calls.{slot_at}
use Rattle.model.specs.Entry.{perm}
use Rattle.sharing.proofs.PairFaults.{row_some, row_none, rows_head, rows_none}
use Rattle.sharing.proofs.FirstLaws.{none_at_all, found_next, none_one}
use Rattle.table.specs.Board.{frame_of}
use Rattle.types.specs.Views.{strength_of}
use Rattle.apart.proofs.who.pair_fault.Invariants.{test}
use Rattle.apart.proofs.who.pair_fault.Goals as goal

pub returns-in-Some : goal.returns-in-Some
unfolding slot_at
returns-in-Some c =
    let a = c.args in
    let F = frame_of a.f a.words.now in
    let i : ℕ = c.loop-i.i in
    let low = c.loop-i-test.true in
    let found = row_some F a.words.now a.slots (strength_of a.s) a.page.0 i c.in-Some.j c.in-Some.ensures.0 c.in-Some.ensures.1 in
    ap₂ (λ (x y : Bool). page_shared a.page.0 i c.in-Some.j (x || y))
    (c.writes.ensures ∙ ap (λ (p : ℕ). grants (perm p) write) c.has.ensures)
    (c.writes-in-Some.ensures ∙ ap (λ (p : ℕ). grants (perm p) write) c.has-in-Some.ensures)
    ∙ sym (rows_head F a.words.now a.slots (strength_of a.s) a.page.0 i
    (found_next (test F a.words.now a.slots (strength_of a.s) a.page.0) i c.loop-i.invariant 8 low found.0).1 low
    ∙ found.1)

pub loop-i-preserved : goal.loop-i-preserved
loop-i-preserved c =
    let a = c.args in
    let F = frame_of a.f a.words.now in
    none_one (test F a.words.now a.slots (strength_of a.s) a.page.0) c.loop-i.i c.loop-i.invariant
    (row_none F a.words.now a.slots (strength_of a.s) a.page.0 c.loop-i.i c.in_default.ensures)

pub returns : goal.returns
returns c =
    let a = c.args in
    let F = frame_of a.f a.words.now in
    let e : c.loop-i.i ≡ 8 = omega arith in
    sym (rows_none F a.words.now a.slots (strength_of a.s) a.page.0 (none_at_all _ 0 8 (rw e at c.loop-i.invariant)))
