-- The walk: from a root page and the page number of an address to what stands there.
use Rattle.std.specs.Prelude.{List, [], ◌∷◌, ℕ, ◌/◌, ◌%◌, ltb, if◌then◌else◌}
use Rattle.model.specs.Numbers.{digit}
use Rattle.model.specs.Layout.{Layout, block_pages, piece_pages}
use Rattle.model.specs.Entry.{Entry, flat, pieces, table, invalid, Found, perm, faults, decode, field_of}
use Rattle.model.specs.Frame.{Frame, space, lent, word_at}

-- ---- the parts of a page number. On RV64, of an address: "pn[0] 15:12, pn[1] 24:16, pn[2] from 25 up"

-- the block that a page lies in
unfoldable pub pn2 : ℕ → ℕ
pn2 page = page / block_pages

module _ (L : Layout) where
  -- the L1 entry, and its field: "Its permission field in an L1 entry is chosen by pn[0], the entry by pn[1]"
  unfoldable pub pn1 : ℕ → ℕ
  pn1 page = page / L.fields % L.words

  unfoldable pub pn0 : ℕ → ℕ
  pn0 page = page % L.fields

  -- the piece of its block that a page lies in
  unfoldable pub piece_of : ℕ → ℕ
  piece_of page = page % block_pages / piece_pages L

module _ (F : Frame) where
  -- ---- a root: "L2 entry number pn[2] lies in the root page". (Document 02, item 7, a root of several pages, changes these three.)

  unfoldable pub root_pages : ℕ → List ℕ
  root_pages root = root ∷ []

  unfoldable pub entry_page : ℕ → ℕ → ℕ
  entry_page root b = root

  unfoldable pub entry_place : ℕ → ℕ
  entry_place b = b

  -- ---- the two stages

  -- L2 entry b of a root: "If the page of the entry to be read, L2 or L1, is not lent, the access faults"
  unfoldable pub l2_word : List ℕ → ℕ → ℕ → ℕ
  l2_word m root b = word_at F m (entry_page root b) (entry_place b)

  unfoldable pub entry_at : List ℕ → ℕ → ℕ → Entry
  entry_at m root b = if lent F (entry_page root b) then decode F.layout (l2_word m root b) else invalid

  -- what an L2 entry finds for a page of its block
  unfoldable pub found : List ℕ → Entry → ℕ → Found
  found m (flat p) page = perm p
  found m (pieces info) page = perm (digit 4 info (piece_of F.layout page))
  found m (table t) page = if lent F t then field_of F.layout (word_at F m t (pn1 F.layout page)) (pn0 F.layout page) else faults
  found m invalid page = faults

  -- "An address of 2^PAW or more faults."
  unfoldable pub walk : List ℕ → ℕ → ℕ → Found
  walk m root page = if ltb page (space F) then found m (entry_at m root (pn2 page)) page else faults
