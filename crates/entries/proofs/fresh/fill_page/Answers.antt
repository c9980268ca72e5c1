-- `entries::fresh::fill_page` meets its contract: after each of its three runs of entries, below the range, at it and above, those that are left
-- decide the whole page (`New`).
use mathlib.Core.List.{List}
use Prim.Native.Nat.{ℕ, ◌-◌}
use native.Mathlib.Omega.{arith}
use Rattle.model.specs.Stores.{new_table}
use Rattle.shapes.specs.Ahead.{Ahead}
use Rattle.shapes.proofs.NewPage.{New, new_start, new_until, new_ahead, new_cut, new_rest, new_good, new_lent}
use Rattle.table.specs.Board.{PAGE-WORDS, frame_of, frame_over}
use Rattle.types.specs.Views.{entry_of, request_of}
use Rattle.types.specs.declared.Budget.{Budget}
use Rattle.types.specs.declared.Edit.{Edit}
use Rattle.entries.proofs.Needs.{plain}
use Rattle.entries.specs.declared.new_page.NewPage.{NewPage}
use Rattle.entries.proofs.fresh.fill_page.Goals as goal
use Rattle.entries.proofs.fresh.fill_page.Goals.{In_ok-below}

-- the page's entries before place i are stored
abbrev Stored : Edit → List ℕ → NewPage → Budget → List ℕ → Budget → ℕ → Type 0
Stored edit m0 new left m more i = New (frame_over edit.f) (request_of edit.q) (entry_of new.block.e) new.block.b new.page.0 m0 left 0 PAGE-WORDS m more i

none : (edit : Edit) (m : List ℕ) (new : NewPage) (left : Budget)
    → Ahead m (new_table (frame_of edit.f m) m (request_of edit.q) (entry_of new.block.e) new.block.b new.page.0) → Stored edit m new left m left 0
unfolding new_table
none edit m new left next = new_start (plain (entry_of new.block.e) new.needs) (omega arith) next

below : (k : In_ok-below) → let a = k.args in Stored a.edit a.words.now a.new a.left k.old_entries.new.words k.in_ok-below.below k.first_entry-from.result
below k =
    let a = k.args in
    new_until (none a.edit a.words.now a.new a.left k.requires.2) k.first_entry-from.result (omega arith) (omega arith) k.in_ok-below.ensures
    k.old_entries.auto.words

pub old_entries-requires : goal.old_entries-requires
old_entries-requires c =
    let a = c.args in
    let from = c.first_entry-from in (
      from.ensures.0,
      omega arith,
      c.requires.0,
      c.requires.1,
      λ k lo hi. from.ensures.1 k (omega arith) (omega arith),
      new_ahead (none a.edit a.words.now a.new a.left c.requires.2) (from.result - 0) (omega arith),
    )

pub returns-in_err-below : goal.returns-in_err-below
unfolding new_table
returns-in_err-below c =
    let a = c.args in
    rw c.from_residual.ensures (new_cut (none a.edit a.words.now a.new a.left c.requires.2) (c.first_entry-from.result - 0) (omega arith) c.in_err-below.ensures)

pub new_entries-requires : goal.new_entries-requires
new_entries-requires c =
    let s = below (goal.at.new_entries-requires c).In_ok-below in
    let to = c.near_end-to in (
      to.ensures.1,
      to.ensures.0,
      new_good s c.requires.0,
      new_lent s c.requires.1,
      new_ahead s (to.result - c.first_entry-from.result) (omega arith),
    )

pub returns-in_err-near : goal.returns-in_err-near
unfolding new_table
returns-in_err-near c =
    rw c.from_residual-in_err-near.ensures
    (new_cut (below (goal.at.returns-in_err-near c).In_ok-below) (c.near_end-to.result - c.first_entry-from.result) (omega arith) c.in_err-near.ensures)

pub old_entries-requires-2 : goal.old_entries-requires-2
old_entries-requires-2 c =
    let to = c.near_end-to in
    let s = new_until (below (goal.at.old_entries-requires-2 c).In_ok-below) to.result to.ensures.0 to.ensures.1 c.in_ok-near.ensures c.new_entries.auto.words in (
      omega arith,
      to.ensures.1,
      new_good s c.requires.0,
      new_lent s c.requires.1,
      λ k lo hi. to.ensures.2 k (omega arith) (omega (arith, to.ensures.1)),
      new_ahead s (PAGE-WORDS - to.result) (omega arith),
    )

pub returns : goal.returns
unfolding new_table
returns c =
    let to = c.near_end-to in
    new_rest (new_until (below (goal.at.returns c).In_ok-below) to.result to.ensures.0 to.ensures.1 c.in_ok-near.ensures c.new_entries.auto.words) c.old_entries-2.ensures
