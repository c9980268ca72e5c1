-- How many slots have a page open, and how many reach it.
use Rattle.std.specs.Prelude.{◌≡◌, Bool, true, ◌&&◌, List, ℕ, Option, ◌+◌, ◌*◌, ◌/◌, ◌%◌, ◌≤◌, ◌<◌, leb, length, get_or, if◌then◌else◌, Some, None}
use Rattle.model.specs.Layout.{Layout, slot_count, block_pages, piece_pages}
use Rattle.model.specs.Register.{ppn_of}
use Rattle.model.specs.Entry.{Entry, flat, pieces, table, invalid, Found}
use Rattle.model.specs.Frame.{Frame, blocks, space, index_of}
use Rattle.model.specs.Walk.{entry_at, found}
use Rattle.model.specs.Sound.{Slot, register, is_open}
use Rattle.model.specs.Calls.{slot_at}
use Rattle.model.specs.Access.{write}
use Rattle.model.specs.Apart.{Strength, strict, sharing, grants_any, grants, opens, reaches, by_slot}
use Rattle.laws.proofs.Sums.{sum}
use Rattle.types.specs.declared.Shares.{Shares}
use Rattle.shapes.specs.Rooted.{Rooted}
use Rattle.shapes.specs.Words.{flat_info}
use Rattle.sharing.specs.Masks.{open_bit, reach_bit, one, Counted}

-- open to c slots and reached by d: "open to two", one of which reaches it
abbrev pub is_crowd : ℕ → ℕ → Bool
is_crowd c d = leb 2 c && leb 1 d

-- with what a walk finds, a slot reaches the page
unfoldable pub reach_of : Strength → Found → Bool
reach_of strict f = grants_any f
reach_of sharing f = grants f write

-- the entry of a slot for block b; by an empty one nothing is open
unfoldable pub entry_of_slot : Frame → List ℕ → Slot → ℕ → Entry
entry_of_slot F m slot b = if is_open slot then entry_at F m (ppn_of F.layout (register slot)) b else flat 0

-- the permissions of a block's pieces by its entry; none, if it has an L1 page
abbrev pub info_by : Layout → Entry → ℕ
info_by L (flat p) = flat_info L p
info_by L (pieces info) = info
info_by L (table t) = 0
info_by L invalid = 0

-- where the words of the L1 page begin that an entry names, if it names one
abbrev pub StartBy : Frame → List ℕ → Entry → Option ℕ → Type 0
StartBy F m (flat p) r = r ≡ None
StartBy F m (pieces info) r = r ≡ None
StartBy F m (table t) r = (r ≡ Some (index_of F t 0)) × (index_of F t 0 + F.layout.words ≤ length m)
StartBy F m invalid r = r ≡ None

-- a block of the address space: it has an entry, and its pages are all inside
abbrev pub BlockOf : Frame → ℕ → Type 0
BlockOf F b = (b < blocks F) × (b * block_pages + block_pages ≤ space F)

-- ---- page by page

module _ (F : Frame) (m : List ℕ) (slots : List Slot) where
  -- how many of the slots below k a page is open to; and how many reach it
  abbrev pub open_count : ℕ → ℕ → ℕ
  open_count k page = sum (λ i. one (by_slot F m slots (opens F m) i page)) k 0

  abbrev pub reach_count : Strength → ℕ → ℕ → ℕ
  reach_count s k page = sum (λ i. one (by_slot F m slots (reaches F m s) i page)) k 0

  unfoldable pub crowded : Strength → ℕ → Bool
  crowded s page = is_crowd (open_count slot_count page) (reach_count s slot_count page)

  -- the roots of the open slots
  abbrev pub AllRooted : Type 0
  AllRooted = (i : ℕ) → is_open (slot_at slots i) ≡ true → Rooted F m (ppn_of F.layout (register (slot_at slots i)))

-- ---- block by block. q: how many pages into the block

module _ (L : Layout) (m : List ℕ) (tables : List ℕ) where
  -- the words of the first count pages, by where they begin, are inside
  abbrev pub InPages : ℕ → Type 0
  InPages count = (count ≤ slot_count) × ((t : ℕ) → t < count → get_or tables t 0 + L.words ≤ length m)

  -- the L1 entry for a page
  abbrev pub entry_for : ℕ → ℕ → ℕ
  entry_for t q = get_or m (get_or tables t 0 + q / L.fields) 0

  -- in how many of these L1 pages it is open; by how many it is reached
  abbrev pub table_opens : ℕ → ℕ → ℕ
  table_opens count q = sum (λ t. one (open_bit (entry_for t q) (4 * (q % L.fields)))) count 0

  abbrev pub table_reaches : Strength → ℕ → ℕ → ℕ
  table_reaches s count q = sum (λ t. one (reach_bit s (entry_for t q) (4 * (q % L.fields)))) count 0

  -- crowded, with c and d of other slots
  abbrev pub full_at : Strength → ℕ → ℕ → ℕ → ℕ → Bool
  full_at s count c d q = is_crowd (c + table_opens count q) (d + table_reaches s count q)

module _ (F : Frame) (m : List ℕ) (s : Strength) where
  -- what was gathered of some slots, of which the page q pages into the block is open to c q, and which d q of them reach. opened and reached count
  -- those that have no L1 page in the block, piece by piece
  pub record Gathered (c d : ℕ → ℕ) (r : Shares) : Type 0 where
    pub size : length r.tables ≡ slot_count
    pub few : r.count ≤ slot_count
    pub inside : (t : ℕ) → t < r.count → get_or r.tables t 0 + F.layout.words ≤ length m
    pub opened : ℕ → ℕ
    pub reached : ℕ → ℕ
    pub even : (j : ℕ) → j < F.layout.pieces → Counted r.even (2 * j) (opened j) (reached j)
    pub opens : (q : ℕ) → q < block_pages → c q ≡ opened (q / piece_pages F.layout) + table_opens F.layout m r.tables r.count q
    pub reaches : (q : ℕ) → q < block_pages → d q ≡ reached (q / piece_pages F.layout) + table_reaches F.layout m r.tables s r.count q

  -- what an entry gives of its block
  abbrev pub entry_opens : Entry → ℕ → ℕ → ℕ
  entry_opens e b q = one (grants_any (found F m e (b * block_pages + q)))

  abbrev pub entry_reaches : Entry → ℕ → ℕ → ℕ
  entry_reaches e b q = one (reach_of s (found F m e (b * block_pages + q)))

  -- of the slots below k, for block b
  abbrev pub GatheredAll : List Slot → ℕ → ℕ → Shares → Type 0
  GatheredAll slots b k r = Gathered (λ q. open_count F m slots k (b * block_pages + q)) (λ q. reach_count F m slots s k (b * block_pages + q)) r
