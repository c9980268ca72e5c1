-- The board memory: pages of bytes. The table is a part of it. (What crates/table calls board is a layout, another thing.)
use Rattle.std.specs.Prelude.{Bool, false, List, [], ◌∷◌, ℕ, ◌+◌, ◌*◌, ◌%◌, eqb, length, get_or, set, if◌then◌else◌}
use Rattle.model.specs.Numbers.{joined, pack}
use Rattle.model.specs.Layout.{page_bytes}
use Rattle.model.specs.Bytes.{entry_bytes}
use Rattle.model.specs.Frame.{Frame, page_of}

-- "board memory of at most 16 pages"
abbrev pub board_pages : ℕ
board_pages = 16

pub record Page : Type 0 where
  pub number : ℕ
  pub bytes : List ℕ

-- of two pages with one number the first counts
abbrev pub Board : Type 0
Board = List Page

-- a page is there, whole
unfoldable pub holds : Board → ℕ → Bool
holds [] page = false
holds (p ∷ ps) page = if eqb p.number page then eqb (length p.bytes) page_bytes else holds ps page

-- "the byte standing there"
unfoldable pub load_byte : Board → ℕ → ℕ
load_byte [] address = 0
load_byte (p ∷ ps) address = if eqb p.number (page_of address) then get_or p.bytes (address % page_bytes) 0 else load_byte ps address

-- "changes that byte alone"
unfoldable pub store_byte : Board → ℕ → ℕ → Board
store_byte [] address v = []
store_byte (p ∷ ps) address v =
    if eqb p.number (page_of address)
    then record { number = p.number; bytes = set p.bytes (address % page_bytes) v } ∷ ps
    else p ∷ store_byte ps address v

module _ (F : Frame) (B : Board) where
  -- word k of the lent pages: "words of one entry each, their bytes counted low first" (document 01)
  unfoldable pub word_of : ℕ → ℕ
  word_of k = pack 256 (λ j. load_byte B (F.first * page_bytes + k * entry_bytes F.layout + j)) (entry_bytes F.layout) 0

  -- the table memory that stands in the board memory
  unfoldable pub table_of : List ℕ
  table_of = joined (λ k. word_of k ∷ []) (F.pages * F.layout.words) 0
