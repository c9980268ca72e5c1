-- `apart::crowd::gather` meets its contract: the invariant: what the slots passed have of the block is gathered.
use mathlib.Core.Path.{sym, subst}
use Prim.Native.Nat.{ℕ, ◌+◌}
use native.Mathlib.Omega.{arith}
use Rattle.model.specs.Calls.{slot_at}
use Rattle.shapes.specs.Rooted.{Good}
use Rattle.sharing.specs.Masks.{open_bit, reach_bit, one, Counted}
use Rattle.sharing.proofs.CrowdLaws.{gathered_none, gathered_more, slot_good}
use Rattle.table.specs.Board.{frame_of}
use Rattle.types.specs.declared.Shares.{Shares}
use Rattle.types.specs.Views.{entry_of, strength_of}
use Rattle.apart.proofs.GatherLaws.{gather_even, gather_table}
use Rattle.apart.proofs.crowd.gather.Goals as goal
use Rattle.apart.proofs.crowd.gather.Goals.{After-slot_entry-e, in-Some, in_default}

-- the entry of the slot that is looked at
good : (c : After-slot_entry-e) → let a = c.args in
    Good (frame_of a.f a.words.now) a.words.now (entry_of c.slot_entry-e.result)
unfolding slot_at
good c =
    let a = c.args in
    let F = frame_of a.f a.words.now in
    subst (Good F a.words.now) (sym c.slot_entry-e.ensures.0) (slot_good F a.words.now a.slots c.requires.2 a.b c.loop-r.r-index c.requires.1.0)

pub loop-r-init : goal.loop-r-init
loop-r-init c =
    let a = c.args in
    (omega arith, gathered_none (frame_of a.f a.words.now) a.words.now (strength_of a.s) a.slots a.b c.none-even.result c.none-even.ensures)

pub slot_entry-e-requires : goal.slot_entry-e-requires
unfolding slot_at
slot_entry-e-requires c = (c.requires.0, λ z. (c.requires.2 c.loop-r.r-index z).is_lent)

pub l1_start-requires : goal.l1_start-requires
l1_start-requires c = good (goal.at.l1_start-requires c).After-slot_entry-e

pub loop-r-preserved : goal.loop-r-preserved
unfolding slot_at
loop-r-preserved c =
    let a = c.args in
    let F = frame_of a.f a.words.now in
    let low = c.loop-r-test.true in
    let before : Shares = record { even = c.loop-r.even; tables = c.loop-r.tables; count = c.loop-r.count } in
    let more = subst (λ (x : ℕ). (k' n r : ℕ) → Counted c.loop-r.even k' n r → Counted c.add-even.result k' (n + one (open_bit x k')) (r + one (reach_bit (strength_of a.s) x k')))
    c.even_info.ensures c.add-even.ensures in
    let all = λ (r : Shares). gathered_more F a.words.now (strength_of a.s) a.slots a.b c.loop-r.r-index r c.requires.1 (entry_of c.slot_entry-e.result) c.slot_entry-e.ensures.0 in
    let ok = good (goal.at.loop-r-preserved c).After-slot_entry-e in
    elim c.match-l1_start.branch [
      | in-Some w ↦ rw (w.tables-is, w.count-is) (
        omega (arith, c.loop-r.invariant.0),
        all _ (gather_table a.f a.words.now (strength_of a.s) a.b _ _ before c.loop-r.invariant.1 c.add-even.result (omega (arith, c.loop-r.invariant.0, low)) w.in-Some.at
            (entry_of c.slot_entry-e.result) ok w.in-Some.ensures more),
      )
      | in_default w ↦ rw (w.tables-is, w.count-is) (
        omega (arith, c.loop-r.invariant.0),
        all _ (gather_even a.f a.words.now (strength_of a.s) a.b _ _ before c.loop-r.invariant.1 c.add-even.result (entry_of c.slot_entry-e.result) ok w.in_default.ensures more),
      )
    ]
