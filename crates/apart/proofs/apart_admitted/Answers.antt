-- `apart::apart_admitted` meets its contract: of the two lowest pages the lower one is told; where both are one, as a table page.
use mathlib.Core.Path.{◌≡◌, sym, ◌∙◌}
use mathlib.Core.Bool.{true}
use Rattle.model.specs.Frame.{bounds_ok}
use Rattle.laws.proofs.FrameNumbers.{framed}
use Rattle.sharing.proofs.CrowdLaws.{all_rooted}
use Rattle.sharing.proofs.LowestPage.{Told, told}
use Rattle.range.proofs.Lawful.{board_lawful}
use Rattle.table.specs.Board.{frame_of}
use Rattle.types.specs.Views.{strength_of}
use Rattle.apart.proofs.apart_admitted.Goals as goal
use Rattle.apart.proofs.apart_admitted.Goals.{Start, After-crowded_page-shared}

in_bounds : (c : Start) → bounds_ok (frame_of c.args.f c.args.words.now) ≡ true
in_bounds c = (framed (frame_of c.args.f c.args.words.now) c.args.words.now c.requires.ok_frame).0

-- what follows from the two pages
said : (c : After-crowded_page-shared) → let a = c.args in
    Told (frame_of a.f a.words.now) a.words.now a.slots (strength_of a.s) c.reached_table-table.result c.crowded_page-shared.result
said c = let a = c.args in told (frame_of a.f a.words.now) a.words.now a.slots (strength_of a.s) _ _ c.reached_table-table.ensures c.crowded_page-shared.ensures

pub crowded_page-shared-requires : goal.crowded_page-shared-requires
crowded_page-shared-requires c =
    let a = c.args in
    (in_bounds (goal.at.crowded_page-shared-requires c).Start, all_rooted (frame_of a.f a.words.now) a.words.now a.slots board_lawful c.requires.ok_frame c.requires.ok_table)

pub returns-in-None-None : goal.returns-in-None-None
returns-in-None-None c = sym (rw (c.in-None-None.is-0, c.in-None-None.is-1) at (said (goal.at.returns-in-None-None c).After-crowded_page-shared))

pub table_fault-requires : goal.table_fault-requires
table_fault-requires c = (
  in_bounds (goal.at.table_fault-requires c).Start,
  (rw (c.in-Some-None.is-0, c.in-Some-None.is-1) at (said (goal.at.table_fault-requires c).After-crowded_page-shared)).0,
)

pub returns-in-Some-None : goal.returns-in-Some-None
returns-in-Some-None c = c.table_fault.ensures ∙ sym (rw (c.in-Some-None.is-0, c.in-Some-None.is-1) at (said (goal.at.returns-in-Some-None c).After-crowded_page-shared)).1

pub pair_fault-requires : goal.pair_fault-requires
pair_fault-requires c = in_bounds (goal.at.pair_fault-requires c).Start

pub returns-in-None-Some : goal.returns-in-None-Some
returns-in-None-Some c = c.pair_fault.ensures ∙ sym (rw (c.in-None-Some.is-0, c.in-None-Some.is-1) at (said (goal.at.returns-in-None-Some c).After-crowded_page-shared))

pub pair_fault-requires-then-shared-table : goal.pair_fault-requires-then-shared-table
pair_fault-requires-then-shared-table c = in_bounds (goal.at.pair_fault-requires-then-shared-table c).Start

pub returns-then-shared-table : goal.returns-then-shared-table
returns-then-shared-table c = c.pair_fault-then-shared-table.ensures ∙ sym ((rw (c.in-Some-Some.is-0, c.in-Some-Some.is-1) at (said (goal.at.returns-then-shared-table c).After-crowded_page-shared)).1 c.if-shared-table.true)

pub table_fault-requires-in-Some-Some : goal.table_fault-requires-in-Some-Some
table_fault-requires-in-Some-Some c = (
  in_bounds (goal.at.table_fault-requires-in-Some-Some c).Start,
  (rw (c.in-Some-Some.is-0, c.in-Some-Some.is-1) at (said (goal.at.table_fault-requires-in-Some-Some c).After-crowded_page-shared)).0,
)

pub returns-else-shared-table : goal.returns-else-shared-table
returns-else-shared-table c = c.table_fault-in-Some-Some.ensures ∙ sym ((rw (c.in-Some-Some.is-0, c.in-Some-Some.is-1) at (said (goal.at.returns-else-shared-table c).After-crowded_page-shared)).2 c.if-shared-table.false)
