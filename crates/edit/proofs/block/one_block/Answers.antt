-- `edit::block::one_block` meets its contract: the form, the page and the stores that the code takes are those of the block.
use Rattle.std.specs.Prelude.{if◌then◌else◌, None}
use mathlib.Core.Path.{◌≡◌, sym, ap, ap₂, ◌∙◌, subst}
use mathlib.Core.Bool.{true, false}
use mathlib.Core.List.{List}
use Prim.Native.Nat.{ℕ, ◌+◌, ◌<◌, ◌^◌}
use native.Mathlib.Omega.{arith}
use lib.ListN.{drop}
use Rattle.model.specs.Stores.{Store, block_stores, needs_page}
use Rattle.model.specs.Forms.{Form, form_in}
use Rattle.model.specs.Frame.{lent}
use Rattle.forms.proofs.BoardShape.{board_shape}
use Rattle.shapes.proofs.BlockLaws.{form_encodes, over_one, pages_one}
use Rattle.shapes.specs.Blocks.{Encodes, form_in_gib, stores_in_gib, stores_over}
use Rattle.shapes.proofs.Order.{ahead_of}
use Rattle.shapes.specs.Run.{run}
use Rattle.model.specs.Entry.{Entry}
use Rattle.types.specs.Views.{entry_of, request_of, form_of, free_list}
use Rattle.shapes.specs.Rooted.{Good}
use Rattle.table.specs.Board.{board, frame_of}
use Rattle.edit.proofs.block.one_block.Goals as goal
use Rattle.edit.proofs.block.one_block.Goals.{After-page_from-new}

good_here : (p : After-page_from-new) → let a = p.args in Good (frame_of a.edit.f a.words.now) a.words.now (entry_of p.entry_at-e.result)
good_here p = let a = p.args in subst (Good (frame_of a.edit.f a.words.now) a.words.now) (sym p.entry_at-e.ensures.0) (p.requires.0.good a.b p.requires.1)

form_here : (p : After-page_from-new) → let a = p.args in
    form_of p.block_form-form.result ≡ form_in_gib (frame_of a.edit.f a.words.now) a.words.now (request_of a.edit.q) a.edit.root.0 None a.b
form_here p =
    let a = p.args in
    p.block_form-form.ensures ∙ ap (λ (e : Entry). form_in (frame_of a.edit.f a.words.now) a.words.now (request_of a.edit.q) false 0 e a.b) p.entry_at-e.ensures.0

-- the stores that the code makes are those of the block
block_here : (p : After-page_from-new) → let a = p.args in
    block_stores (frame_of a.edit.f a.words.now) a.words.now (request_of a.edit.q) a.edit.root.0 (form_of p.block_form-form.result) (entry_of p.entry_at-e.result) a.b p.page_from-new.result.0
    ≡ stores_over (frame_of a.edit.f a.words.now) a.words.now (request_of a.edit.q) a.edit.root.0 None 1 a.b (drop a.next (free_list a.free))
block_here p =
    let a = p.args in
    let F = frame_of a.edit.f a.words.now in
    ap₂ (λ (x : Form) (e : Entry). block_stores F a.words.now (request_of a.edit.q) a.edit.root.0 x e a.b p.page_from-new.result.0) (form_here p) p.entry_at-e.ensures.0
    ∙ ap (stores_in_gib F a.words.now (request_of a.edit.q) a.edit.root.0 None a.b) p.page_from-new.ensures
    ∙ sym (over_one F a.words.now (request_of a.edit.q) a.edit.root.0 None a.b (drop a.next (free_list a.free)))

pub store_block-requires : goal.store_block-requires
store_block-requires c =
    let a = c.args in
    let p = (goal.at.store_block-requires c).After-page_from-new in (
      good_here p,
      c.requires.0.is_lent,
      λ z. let y = c.requires.3 (sym (ap₂ (λ (x : Form) (e : Entry). needs_page x e) (form_here p) c.entry_at-e.ensures.0) ∙ z) in
          subst (λ (n : ℕ). (lent (frame_of a.edit.f a.words.now) n ≡ true) × (n < 2 ^ board.info_bits)) (sym c.page_from-new.ensures) y,
      subst (Encodes board) (sym c.block_form-form.ensures)
          (form_encodes (frame_of a.edit.f a.words.now) board_shape a.words.now (request_of a.edit.q) a.edit.fair.small (entry_of c.entry_at-e.result) (good_here p) false 0 a.b (omega arith)),
      ahead_of (sym (block_here p)) c.requires.4,
    )

pub returns : goal.returns
returns c =
    let a = c.args in
    let F = frame_of a.edit.f a.words.now in
    let p = (goal.at.returns c).After-page_from-new in
    record {
      made = c.store_block.ensures ∙ ap (λ (ss : List Store). run a.left ss a.words.now) (block_here p);
      pages =
          c.next_page.ensures
          ∙ ap₂ (λ (x : Form) (e : Entry). if needs_page x e then a.next + 1 else a.next) (form_here p) c.entry_at-e.ensures.0
          ∙ sym (pages_one F a.words.now (request_of a.edit.q) a.edit.root.0 None a.b a.next);
      some = omega arith;
      within = omega arith;
    }
