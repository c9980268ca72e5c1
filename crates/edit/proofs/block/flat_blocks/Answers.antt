-- `edit::block::flat_blocks` meets its contract: in a GiB of one permission each block has one entry to store, so the row's stores are its blocks'.
use Rattle.std.specs.Prelude.{Some}
use mathlib.Core.Path.{◌≡◌, sym, ap, ap₂, ◌∙◌}
use mathlib.Core.List.{List}
use Prim.Native.Nat.{ℕ, ◌+◌, ◌-◌, ◌*◌, ◌%◌}
use native.Mathlib.Omega.{arith}
use lib.ListN.{drop}
use Rattle.shapes.proofs.BlockLaws.{row_stores_lem, row_pages, flat_entry}
use Rattle.shapes.specs.Rows.{row_stores}
use Rattle.shapes.specs.Blocks.{stores_over}
use Rattle.shapes.specs.Ahead.{Ahead}
use Rattle.shapes.proofs.Order.{ahead_of}
use Rattle.shapes.specs.Run.{run}
use Rattle.shapes.proofs.Places.{place}
use Rattle.types.specs.Views.{request_of, free_list}
use Rattle.model.specs.Stores.{Store}
use borrow.Author.Rules.{rules}
use Rattle.table.specs.Board.{frame_of, TYPE-UNIT}
use Rattle.edit.proofs.block.flat_blocks.Goals as goal
use Rattle.edit.proofs.block.flat_blocks.Goals.{After-narrow}

-- the row's stores are those of its blocks
row_here : (w : After-narrow) → let a = w.args in
    row_stores a.words.now (λ x. w.narrow.result) (32 - a.b % 32) (w.page_at.result + a.b)
    ≡ stores_over (frame_of a.edit.f a.words.now) a.words.now (request_of a.edit.q) a.edit.root.0 (Some a.p) (32 - a.b % 32) a.b (drop a.next (free_list a.free))
row_here w =
    let a = w.args in
    let m = a.words.now in
    let F = frame_of a.edit.f m in
    let n = 32 - a.b % 32 in
    ap₂ (λ (x k : ℕ). row_stores m (λ y. x) n k) w.narrow.ensures (place F a.edit.root.0 a.b _ w.page_at.ensures.0)
    ∙ sym (row_stores_lem F m (request_of a.edit.q) a.edit.root.0 (Some a.p) (λ y. a.p * TYPE-UNIT) n a.b (drop a.next (free_list a.free)) (λ x lo hi. flat_entry F m (request_of a.edit.q) a.edit.root.0 a.p x))

pub flat_entries-requires : goal.flat_entries-requires
flat_entries-requires c =
    let a = c.args in
    let m = a.words.now in
    let n = 32 - a.b % 32 in
    let next : Ahead m (row_stores m (λ w. c.narrow.result) n (c.page_at.result + a.b)) = ahead_of (sym (row_here c)) c.requires.3 in
    search rules

pub returns : goal.returns
returns c =
    let a = c.args in
    let m = a.words.now in
    let F = frame_of a.edit.f m in
    let n = 32 - a.b % 32 in
    record {
      made = c.flat_entries.ensures ∙ ap (λ (ss : List Store). run a.left ss m) (row_here (goal.at.returns c).After-narrow);
      pages = omega (arith, row_pages F m (request_of a.edit.q) a.edit.root.0 (Some a.p) (λ w. a.p * TYPE-UNIT) n a.b (λ x lo hi. flat_entry F m (request_of a.edit.q) a.edit.root.0 a.p x));
      some = omega arith;
      within = omega arith;
    }
