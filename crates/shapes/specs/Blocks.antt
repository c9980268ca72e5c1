-- A block and a range: pieces that an end of the range cuts, blocks of one GiB, pages that the whole edit takes.
use Rattle.std.specs.Prelude.{◌≡◌, Bool, true, false, List, ℕ, Option, Result, ◌+◌, ◌*◌, ◌/◌, ◌%◌, ◌^◌, ◌≤◌, ◌<◌, Some, None, Ok, Err}
use Rattle.model.specs.Numbers.{digit}
use Rattle.model.specs.Layout.{Layout, block_pages, gib_blocks, piece_pages}
use Rattle.model.specs.Entry as entry
use Rattle.model.specs.Frame as frame
use Rattle.model.specs.Walk as walk
use Rattle.model.specs.Forms as model
use Rattle.model.specs.Stores as stores
use Rattle.model.specs.Calls as calls
use Rattle.shapes.specs.Rooted.{Rooted}

-- before the edit each page of block b, whose entry is e, is of the permission that info has for its piece
abbrev pub Even : frame.Frame → List ℕ → entry.Entry → ℕ → ℕ → Type 0
Even F m e b info =
    (i k : ℕ) → i < F.layout.pieces → b * block_pages + i * piece_pages F.layout ≤ k → k < b * block_pages + i * piece_pages F.layout + piece_pages F.layout
    → model.perm_of (walk.found F m e k) ≡ digit 4 info i

-- the page at cuts a piece of block b, with pages on both sides, that by info has another permission than the asked one
abbrev pub Mixes : Layout → model.Request → ℕ → ℕ → ℕ → Bool → Type 0
Mixes L q b info at true = (0 < at % piece_pages L) × (at / block_pages ≡ b) × (digit 4 info (at / piece_pages L % L.pieces) ≡ q.permission → ⊥)
Mixes L q b info at false = (i : ℕ) → i < L.pieces → b * block_pages + i * piece_pages L < at → at < b * block_pages + i * piece_pages L + piece_pages L → digit 4 info i ≡ q.permission

-- block b of a root is all of permission p, once the edit is whole
abbrev pub block_is : frame.Frame → List ℕ → model.Request → ℕ → ℕ → ℕ → Bool
block_is F m q root p b = model.all_are F m q (walk.entry_at F m root b) p block_pages (b * block_pages)

-- what is found of a piece or a GiB: the one permission that all its pages have, or, where they have not one, that of the first. As the one
-- permission, if they have one
abbrev pub one_in : Result ℕ ℕ → Option ℕ
one_in (Ok p) = Some p
one_in (Err p) = None

-- whether they have one, and which; where they have not, 0 stands for it
abbrev pub has_one : Option ℕ → Bool
has_one (Some p) = true
has_one None = false

abbrev pub one_of : Option ℕ → ℕ
one_of (Some p) = p
one_of None = 0

-- what piece says is so of piece i of block b, whose entry is e: the permission of its first page, and whether it is all the piece's
abbrev pub PieceIs : frame.Frame → List ℕ → model.Request → entry.Entry → ℕ → ℕ → Result ℕ ℕ → Type 0
PieceIs F m q e b i (Ok p) = (p ≡ model.after_in F m q e (model.piece_start F b i)) × (model.all_are F m q e p (piece_pages F.layout) (model.piece_start F b i) ≡ true) × (p < 4)
PieceIs F m q e b i (Err p) = (p ≡ model.after_in F m q e (model.piece_start F b i)) × (model.all_are F m q e p (piece_pages F.layout) (model.piece_start F b i) ≡ false) × (p < 4)

-- ---- several blocks of one GiB, by what gib says of it

-- what gib says is so of GiB g: the permission of its first page, and whether it is all the GiB's
abbrev pub GibIs : frame.Frame → List ℕ → model.Request → ℕ → ℕ → Result ℕ ℕ → Type 0
GibIs F m q root g (Ok p) = (p ≡ model.gib_first F m q root g) × (model.gib_is_one F m q root g p ≡ true) × (p < 4)
GibIs F m q root g (Err p) = (p ≡ model.gib_first F m q root g) × (model.gib_is_one F m q root g p ≡ false) × (p < 4)

-- the finished form of block b
abbrev pub form_in_gib : frame.Frame → List ℕ → model.Request → ℕ → Option ℕ → ℕ → model.Form
form_in_gib F m q root gib b = model.form_in F m q (has_one gib) (one_of gib) (walk.entry_at F m root b) b

-- its stores; and those of n blocks from b, with the free pages in order, and how many new pages they take
abbrev pub stores_in_gib : frame.Frame → List ℕ → model.Request → ℕ → Option ℕ → ℕ → ℕ → List stores.Store
stores_in_gib F m q root gib b new = stores.block_stores F m q root (form_in_gib F m q root gib b) (walk.entry_at F m root b) b new

abbrev pub stores_over : frame.Frame → List ℕ → model.Request → ℕ → Option ℕ → ℕ → ℕ → List ℕ → List stores.Store
stores_over F m q root gib n b free = stores.stores_from F m q root b (model.forms_in F m q root (has_one gib) (one_of gib) n b) free

abbrev pub pages_over : frame.Frame → List ℕ → model.Request → ℕ → Option ℕ → ℕ → ℕ → ℕ
pages_over F m q root gib n b = stores.new_pages F m root b (model.forms_in F m q root (has_one gib) (one_of gib) n b)

-- a form whose entry fits a word
abbrev pub Encodes : Layout → model.Form → Type 0
Encodes L (model.want_flat p) = p < 4
Encodes L (model.want_pieces i) = i < 4 ^ L.pieces
Encodes L model.want_table = Unit {0}

-- ---- the whole edit

-- the finished form of block c of a touched GiB
abbrev pub form_of_block : frame.Frame → List ℕ → model.Request → ℕ → ℕ → model.Form
form_of_block F m q root c =
    model.form_in F m q (model.gib_is_one F m q root (c / gib_blocks) (model.gib_first F m q root (c / gib_blocks))) (model.gib_first F m q root (c / gib_blocks)) (walk.entry_at F m root c) c

-- the frame and the range are within their bounds, and the root is one of a sound table
pub record Ranged (F : frame.Frame) (m : List ℕ) (q : model.Request) (root : ℕ) : Type 0 where
  pub small : q.permission < 4
  pub ok_frame : frame.frame_ok F m ≡ true
  pub range : calls.bad_range F q ≡ false
  pub rooted : Rooted F m root

-- how many new pages the whole edit takes
abbrev pub whole_pages : frame.Frame → List ℕ → model.Request → ℕ → ℕ
whole_pages F m q root = stores.new_pages F m root (model.first_gib q * gib_blocks) (model.forms F m q root)
