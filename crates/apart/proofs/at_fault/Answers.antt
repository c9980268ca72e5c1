-- `apart::at_fault` meets its contract: a free page is no table page; else the slots are asked.
use mathlib.Core.Path.{◌≡◌, sym, ap, ◌∙◌}
use mathlib.Core.Bool.{not}
use Prim.Native.Nat.{◌+◌}
use native.Mathlib.Omega.{arith}
use Rattle.model.specs.Apart.{table_page}
use Rattle.laws.proofs.FrameNumbers.{Bounds, bounds, framed, few_pages}
use Rattle.sharing.specs.Faults.{some}
use Rattle.sharing.proofs.TableFaults.{no_table_page, table_asked}
use Rattle.table.specs.Board.{frame_of}
use Rattle.types.specs.Views.{strength_of}
use Rattle.apart.proofs.TableMarks.{table_marked}
use Rattle.apart.proofs.at_fault.Goals as goal
use Rattle.apart.proofs.at_fault.Goals.{After-stands, Start}

within : (c : Start) → Bounds (frame_of c.args.f c.args.words.now)
within c = let F = frame_of c.args.f c.args.words.now in bounds F (framed F c.args.words.now c.requires.0.ok_frame).0

is_table : (c : After-stands) → let a = c.args in
    table_page (frame_of a.f a.words.now) a.words.now a.slots (a.f.first.0 + a.k) ≡ not c.stands.result
is_table c =
    let a = c.args in
    table_marked a.f a.words.now a.slots a.free.now c.requires.0 a.k c.requires.1 ∙ ap not (sym c.stands.ensures)

pub stands-requires : goal.stands-requires
stands-requires c = omega (arith, (within (goal.at.stands-requires c).Start).most, c.requires.1)

pub returns-then-stands : goal.returns-then-stands
returns-then-stands c =
    let a = c.args in
    sym (ap some (no_table_page (frame_of a.f a.words.now) a.words.now a.slots (strength_of a.s) _ (is_table (goal.at.returns-then-stands c).After-stands ∙ ap not c.if-stands.true)))

pub overflow_add-f : goal.overflow_add-f
overflow_add-f c = omega (arith, (within (goal.at.overflow_add-f c).Start).room, few_pages c.args.f.paw (within (goal.at.overflow_add-f c).Start).paw_high_lem, c.requires.1)

pub reached_by-requires : goal.reached_by-requires
reached_by-requires c = (framed _ _ c.requires.0.ok_frame).0

pub returns : goal.returns
returns c =
    let a = c.args in
    let t = is_table (goal.at.returns c).After-stands ∙ ap not c.if-stands.false in
    c.is_some.ensures ∙ table_asked (frame_of a.f a.words.now) a.words.now a.slots (strength_of a.s) _ t c.reached_by.result c.reached_by.ensures
