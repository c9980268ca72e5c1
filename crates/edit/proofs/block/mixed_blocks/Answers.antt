-- `edit::block::mixed_blocks` meets its contract: outside the range a block without an L1 page has one entry to store, so the row's stores are its
-- blocks'; if the first one has such a page, nothing was stored yet, and that block is stored alone.
use Rattle.std.specs.Prelude.{None}
use mathlib.Core.Path.{◌≡◌, sym, ap, ◌∙◌, subst}
use mathlib.Core.List.{List, head_d}
use Prim.Native.Nat.{ℕ, ◌+◌, ◌-◌, ◌%◌, ◌^◌, ◌≤◌, ◌<◌}
use native.Mathlib.Omega.{arith}
use lib.ListN.{drop, get_or}
use Rattle.forms.proofs.BoardShape.{board_shape}
use Rattle.shapes.proofs.BlockLaws.{Entrywise, ahead_over, row_stores_lem, row_pages, pieces_entry}
use Rattle.shapes.proofs.RowLaws.{row_none}
use Rattle.sequence.specs.GibBlocks.{HasNewPage, Advanced}
use Rattle.shapes.specs.Blocks.{stores_over}
use Rattle.shapes.specs.Ahead.{Ahead}
use Rattle.shapes.proofs.Order.{ahead_of}
use Rattle.shapes.specs.Rows.{row_stores, word_as_pieces, PiecesAhead}
use Rattle.shapes.specs.Run.{run}
use Rattle.shapes.proofs.Places.{place}
use Rattle.model.specs.Frame.{blocks, index_of}
use Rattle.model.specs.Stores.{Store}
use Rattle.shapes.specs.Rooted.{Rooted}
use borrow.Author.Rules.{rules}
use Rattle.table.specs.Board.{board, frame_of}
use Rattle.types.specs.Views.{request_of, free_list}
use Rattle.edit.proofs.block.mixed_blocks.Goals as goal
use Rattle.edit.proofs.block.mixed_blocks.Goals.{After-page_at, Then-row-eq0}

-- a first entry with an L1 page: nothing is stored yet
nothing : (c : Then-row-eq0) → c.pieces_row-row.new.words ≡ c.args.words.now
nothing c =
    let a = c.args in
    let r = c.pieces_row-row in
    row_none (word_as_pieces board) a.words.now a.left _ r.result.count c.if-row-eq0.true r.result.left r.new.words r.ensures.2

-- how many blocks lie outside the range, from b on
abbrev outside : (p : After-page_at) → ℕ
outside p = p.blocks_outside-n.result

-- the row's stores, as far as no block has an L1 page, are those of its blocks
abbrev NoTable : (p : After-page_at) → ℕ → Type 0
NoTable p n = let a = p.args in (k : ℕ) → p.page_at.result + a.b ≤ k → k < p.page_at.result + a.b + n → word_as_pieces board (get_or a.words.now k 0) ≡ 0 → ⊥

entries_here : (p : After-page_at) (n : ℕ) → let a = p.args in
    n ≤ outside p → NoTable p n → (x : ℕ) → a.b ≤ x → x < a.b + n → Entrywise (frame_of a.edit.f a.words.now) a.words.now (request_of a.edit.q) a.edit.root.0 None (word_as_pieces board) x
entries_here p n few some x lo hi =
    let a = p.args in
    let m = a.words.now in
    let F = frame_of a.edit.f m in
    let k : p.page_at.result + x ≡ index_of F a.edit.root.0 x = place F a.edit.root.0 x _ p.page_at.ensures.0 in
    pieces_entry F m (request_of a.edit.q) a.edit.root.0 board_shape a.edit.fair.small p.requires.0.is_lent x (p.requires.0.good x (omega (arith, p.requires.1, p.blocks_outside-n.ensures.0)))
    (λ y l u. p.blocks_outside-n.ensures.1 y (omega arith) (omega arith))
    (subst (λ (y : ℕ). word_as_pieces board (get_or m y 0) ≡ 0 → ⊥) k (some _ (omega arith) (omega arith)))

row_here : (p : After-page_at) (n : ℕ) → let a = p.args in n ≤ outside p → NoTable p n
    → row_stores a.words.now (word_as_pieces board) n (p.page_at.result + a.b)
    ≡ stores_over (frame_of a.edit.f a.words.now) a.words.now (request_of a.edit.q) a.edit.root.0 None n a.b (drop a.next (free_list a.free))
row_here p n few some =
    let a = p.args in
    let m = a.words.now in
    let F = frame_of a.edit.f m in
    ap (row_stores m (word_as_pieces board) n) (place F a.edit.root.0 a.b _ p.page_at.ensures.0)
    ∙ sym (row_stores_lem F m (request_of a.edit.q) a.edit.root.0 None (word_as_pieces board) n a.b (drop a.next (free_list a.free)) (entries_here p n few some))

pub pieces_row-row-requires : goal.pieces_row-row-requires
pieces_row-row-requires c =
    let a = c.args in
    let m = a.words.now in
    let F = frame_of a.edit.f m in
    let next : PiecesAhead board m (outside (goal.at.pieces_row-row-requires c).After-page_at) (c.page_at.result + a.b)
    = λ k few some. ahead_of (sym (row_here (goal.at.pieces_row-row-requires c).After-page_at k few some)) (ahead_over F m (request_of a.edit.q) a.edit.root.0 None k (32 - a.b % 32) a.b (drop a.next (free_list a.free)) (omega (arith, c.blocks_outside-n.ensures.0)) c.requires.4) in
    search rules

pub one_block-requires : goal.one_block-requires
one_block-requires c =
    let a = c.args in
    subst
    (λ (x : List ℕ). Rooted (frame_of a.edit.f x) x a.edit.root.0 × (a.b < blocks (frame_of a.edit.f x)) × (a.next < 2 ^ 32)
    × HasNewPage (frame_of a.edit.f x) x (request_of a.edit.q) a.edit.root.0 None a.b (head_d (drop a.next (free_list a.free)) 0)
    × Ahead x (stores_over (frame_of a.edit.f x) x (request_of a.edit.q) a.edit.root.0 None 1 a.b (drop a.next (free_list a.free))))
    (sym (nothing (goal.at.one_block-requires c).Then-row-eq0)) (c.requires.0, omega (arith, c.requires.1), c.requires.2, c.requires.3, ahead_over _ _ _ _ None 1 (32 - a.b % 32) a.b (drop a.next (free_list a.free)) (omega arith) c.requires.4)

pub returns-then-row-eq0 : goal.returns-then-row-eq0
returns-then-row-eq0 c =
    let a = c.args in
    subst (λ (x : List ℕ). Advanced (frame_of a.edit.f x) x (request_of a.edit.q) a.edit.root.0 None a.b (free_list a.free) a.next a.left c.one_block.result c.one_block.new.words)
    (nothing (goal.at.returns-then-row-eq0 c).Then-row-eq0) c.one_block.ensures

pub returns : goal.returns
returns c =
    let a = c.args in
    let m = a.words.now in
    let F = frame_of a.edit.f m in
    let r = c.pieces_row-row in
    let n = r.result.count in
    record {
      made = r.ensures.2 ∙ ap (λ (ss : List Store). run a.left ss m) (row_here (goal.at.returns c).After-page_at n r.ensures.0 r.ensures.1);
      pages = omega (arith, row_pages F m (request_of a.edit.q) a.edit.root.0 None (word_as_pieces board) n a.b (entries_here (goal.at.returns c).After-page_at n r.ensures.0 r.ensures.1));
      some = omega (arith, c.if-row-eq0.false);
      within = omega (arith, c.blocks_outside-n.ensures.0, r.ensures.0);
    }
