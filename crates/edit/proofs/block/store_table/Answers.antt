-- `edit::block::store_table` meets its contract: a block that has an L1 page keeps it, and any other gets a new one.
use mathlib.Core.Path.{◌≡◌, refl, sym, ap, ◌∙◌}
use mathlib.Core.Bool.{true, true≢false}
use mathlib.Core.List.{List}
use Prim.Native.Nat.{ℕ}
use Rattle.shapes.specs.Run.{run}
use Rattle.shapes.proofs.Order.{ahead_of}
use Rattle.model.specs.Entry as entry
use Rattle.model.specs.Forms.{Request, want_table}
use Rattle.model.specs.Frame.{Frame}
use Rattle.model.specs.Stores.{Store, needs_page, block_stores, link_table}
use Rattle.table.specs.Board.{frame_of}
use Rattle.types.specs.Views.{entry_of, request_of}
use Rattle.types.specs.declared.Entry.{Entry}
use Rattle.types.specs.declared.Entry.TheVariants.{Flat, Pieces, Table, Invalid}
use Rattle.types.specs.declared.PageNumber.{PageNumber}
use Rattle.edit.proofs.block.store_table.Goals as goal

-- a block whose entry is no `Entry::Table` needs a page
needs : (e : Entry) → ((t : PageNumber) → e ≡ Table t → ⊥) → needs_page want_table (entry_of e) ≡ true
unfolding needs_page
needs (Flat p) h = refl
needs (Pieces i) h = refl
needs (Table t) h = absurd (h t refl)
needs Invalid h = refl

-- so its stores are those that fill and link it
linked : (F : Frame) (m : List ℕ) (q : Request) (root : ℕ) (e : entry.Entry) (b new : ℕ) → needs_page want_table e ≡ true → block_stores F m q root want_table e b new ≡ link_table F m q root e b new
unfolding needs_page block_stores
linked F m q root (entry.flat p) b new h = refl
linked F m q root (entry.pieces i) b new h = refl
linked F m q root (entry.table t) b new h = absurd (true≢false (sym h))
linked F m q root entry.invalid b new h = refl

pub own_table-requires : goal.own_table-requires
unfolding block_stores
own_table-requires c =
    (c.args.block.inside, rw c.in-Table.is at c.requires.0, rw c.in-Table.is at c.requires.3)

pub returns-in-Table : goal.returns-in-Table
unfolding block_stores
returns-in-Table c = rw c.in-Table.is c.own_table.ensures

pub invariant_of-link_table : goal.invariant_of-link_table
invariant_of-link_table c = record { needs = needs c.args.block.e c.in_default.not-Table }

pub link_table-requires : goal.link_table-requires
link_table-requires c =
    let a = c.args in
    let h = needs a.block.e c.in_default.not-Table in
    let new = c.requires.2 h in (
      c.requires.0,
      new.0,
      c.requires.1,
      new.1,
      ahead_of (linked (frame_of a.edit.f a.words.now) a.words.now (request_of a.edit.q) a.edit.root.0 (entry_of a.block.e) a.block.b a.new.0 h) c.requires.3,
    )

pub returns : goal.returns
returns c =
    let a = c.args in
    c.link_table.ensures
    ∙ ap (λ (ss : List Store). run a.left ss a.words.now)
    (sym (linked (frame_of a.edit.f a.words.now) a.words.now (request_of a.edit.q) a.edit.root.0 (entry_of a.block.e) a.block.b a.new.0 (needs a.block.e c.in_default.not-Table)))
