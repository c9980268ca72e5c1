-- Slots, the pages in use, a sound table, and the free pages.
use Rattle.std.specs.Prelude.{Bool, true, false, not, ◌&&◌, List, [], ◌∷◌, ◌++◌, map, ℕ, eqb, if◌then◌else◌}
use Rattle.model.specs.Numbers.{every, joined, each, member, distinct}
use Rattle.model.specs.Register.{ppn_of, wpri_of, sdid_of, mode_of}
use Rattle.model.specs.Entry.{Entry, flat, pieces, table, invalid, clean}
use Rattle.model.specs.Frame.{Frame, blocks, lent, word_at}
use Rattle.model.specs.Walk.{root_pages, entry_at}

-- ---- slots: "eight slots, each holding an mmpt value; zero means empty". (Document 02, item 1, makes a slot a record.)

abbrev pub Slot : Type 0
Slot = ℕ

abbrev pub register : Slot → ℕ
register slot = slot

abbrev pub empty_slot : Slot
empty_slot = 0

-- open: its register is not zero
unfoldable pub is_open : Slot → Bool
is_open slot = not (eqb (register slot) 0)

-- the registers of the open slots, in slot order
unfoldable pub open_registers : List Slot → List ℕ
open_registers [] = []
open_registers (s ∷ ss) = if is_open s then register s ∷ open_registers ss else open_registers ss

-- the page that an entry names, if it is TYPE 4
unfoldable pub link_of : Entry → List ℕ
link_of (flat p) = []
link_of (pieces info) = []
link_of (table page) = page ∷ []
link_of invalid = []

module _ (F : Frame) where
  unfoldable pub roots : List Slot → List ℕ
  roots slots = map (ppn_of F.layout) (open_registers slots)

  unfoldable pub sdids : List Slot → List ℕ
  sdids slots = map (sdid_of F.layout) (open_registers slots)

  -- "Open slots have MODE 1, WPRI zero, distinct SDIDs"
  unfoldable pub sound_register : ℕ → Bool
  sound_register r = eqb (mode_of F.layout r) 1 && eqb (wpri_of F.layout r) 0

  unfoldable pub sound_slots : List Slot → Bool
  sound_slots slots = each sound_register (open_registers slots) && distinct (sdids slots)

  -- the lent pages that are not in use, lowest first
  unfoldable pub free_of : List ℕ → List ℕ
  free_of used = joined (λ page. if member page used then [] else page ∷ []) F.pages F.first

  module _ (m : List ℕ) where
    -- the pages that the TYPE 4 entries of a root name
    unfoldable pub links_in : ℕ → List ℕ
    links_in root = joined (λ b. link_of (entry_at F m root b)) (blocks F) 0

    -- the pages in use: root by root, its own and then those that its entries name
    unfoldable pub used : List ℕ → List ℕ
    used [] = []
    used (root ∷ rs) = root_pages F root ++ (links_in root ++ used rs)

    -- "all reserved bits in it are zero"
    unfoldable pub clean_page : ℕ → Bool
    clean_page page = every (λ i. clean F.layout (word_at F m page i)) F.layout.words 0

    -- an entry passes the rules, and "Each TYPE 4 entry names a lent page .., and all reserved bits in it are zero"
    unfoldable pub sound_entry : Entry → Bool
    sound_entry (flat p) = true
    sound_entry (pieces info) = true
    sound_entry (table page) = lent F page && clean_page page
    sound_entry invalid = false

    -- "root pages inside the lent memory. The first 2^(PAW-25) entries of each root pass the rules above; the rest of the page is never read."
    unfoldable pub sound_root : ℕ → Bool
    sound_root root = each (lent F) (root_pages F root) && every (λ b. sound_entry (entry_at F m root b)) (blocks F) 0

    -- "distinct root pages"; a page that an entry names "is no root and .. no other entry of any domain names" it
    unfoldable pub sound_table : List ℕ → Bool
    sound_table rs = each sound_root rs && distinct (used rs)

    unfoldable pub sound : List Slot → Bool
    sound slots = sound_slots slots && sound_table (roots slots)

    -- "A page is free if it is no open slot's root and no such entry names it."
    unfoldable pub free_pages : List ℕ → List ℕ
    free_pages rs = free_of (used rs)
