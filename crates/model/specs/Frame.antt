-- The frame and its bounds, and the lent memory: a list of words of one entry each.
use Rattle.std.specs.Prelude.{Bool, ◌&&◌, List, ℕ, ◌+◌, ◌*◌, ◌-◌, ◌/◌, ◌^◌, eqb, ltb, leb, length, get_or}
use Rattle.model.specs.Layout.{Layout, page_bytes, min_paw, min_pages}

-- "A frame is: the physical address width PAW .., lent table memory of .. whole pages .., and the page number of its first page"
pub record Frame : Type 0 where
  pub layout : Layout
  pub paw : ℕ
  pub first : ℕ
  pub pages : ℕ

-- the page number of an address: "offset bits 11:0"
unfoldable pub page_of : ℕ → ℕ
page_of address = address / page_bytes

module _ (F : Frame) where
  -- blocks of the address space: "The first 2^(PAW-25) entries of each root"
  unfoldable pub blocks : ℕ
  blocks = 2 ^ (F.paw - 25)

  -- pages of the address space: "2^(PAW-12)"
  unfoldable pub space : ℕ
  space = 2 ^ (F.paw - 12)

  unfoldable pub lent : ℕ → Bool
  lent page = leb F.first page && ltb page (F.first + F.pages)

  -- "PAW (30 to 34), lent table memory of 2 to 256 whole pages .., and the page number of its first page, at least 1, with first
  -- page + pages at most 2^(PAW-12)"
  unfoldable pub bounds_ok : Bool
  bounds_ok =
      leb min_paw F.paw && leb F.paw F.layout.max_paw && leb min_pages F.pages && leb F.pages F.layout.max_pages
      && leb 1 F.first && leb (F.first + F.pages) space

  -- and the memory is of so many whole pages
  unfoldable pub frame_ok : List ℕ → Bool
  frame_ok m = bounds_ok && eqb (length m) (F.pages * F.layout.words)

  -- which word of the memory is entry i of a lent page, and what stands there
  unfoldable pub index_of : ℕ → ℕ → ℕ
  index_of page i = (page - F.first) * F.layout.words + i

  unfoldable pub word_at : List ℕ → ℕ → ℕ → ℕ
  word_at m page i = get_or m (index_of page i) 0
