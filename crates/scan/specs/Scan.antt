-- The pass over a table: a page that is met loses its mark, and one that has lost it was met before. The contracts of `sound` cite this.
use Rattle.std.specs.Prelude.{◌≡◌, Bool, true, false, ◌&&◌, List, [], ◌∷◌, ℕ, zero, suc, ◌+◌, ◌-◌, ◌/◌, ◌%◌, ◌^◌, eqb, ltb, get_or, length, if◌then◌else◌}
use lib.Bits.{bit_or}
use Rattle.model.specs.Numbers.{every}
use Rattle.model.specs.Layout.{Layout}
use Rattle.model.specs.Register.{ppn_of, wpri_of, sdid_of, mode_of}
use Rattle.model.specs.Entry.{Entry, flat, pieces, table, invalid, decode}
use Rattle.model.specs.Frame.{Frame, blocks, lent}
use Rattle.model.specs.Walk.{entry_at}
use Rattle.model.specs.Sound.{Slot, register, is_open, clean_page}
use Rattle.marks.specs.Marks.{Marks, mark_at, unmark}

-- not sound, or the marks so far
pub data Scan : Type 0 where
  unsound : Scan
  marked : Marks → Scan

-- what a function says by its result and the marks that it leaves
abbrev pub scanned : Bool → Marks → Scan
scanned true marks = marked marks
scanned false marks = unsound

abbrev pub then_scan : Scan → (Marks → Scan) → Scan
then_scan unsound next = unsound
then_scan (marked marks) next = next marks

-- one step for each member of a list, and for each of the n numbers from s
unfoldable pub scan_all : (Marks → ℕ → Scan) → Marks → List ℕ → Scan
scan_all step marks [] = marked marks
scan_all step marks (x ∷ xs) = then_scan (step marks x) (λ after. scan_all step after xs)

unfoldable pub scan_run : (Marks → ℕ → Scan) → Marks → ℕ → ℕ → Scan
scan_run step marks zero s = marked marks
scan_run step marks (suc n) s = then_scan (step marks s) (λ after. scan_run step after n (suc s))

-- mark i taken away; unsound if it did not stand
unfoldable pub take_mark : Marks → ℕ → Scan
take_mark marks i = scanned (mark_at marks i) (unmark marks i)

-- an L2 entry of the "1G" types, by its word: TYPE below 4, ZERO and INFO zero
unfoldable pub flat_word : Layout → ℕ → Bool
flat_word L w = ltb (w / 2 ^ L.info_bits) 4 && eqb (w % 2 ^ L.info_bits) 0

-- all is these words gathered by `|`: a test that holds of a `|` exactly when it holds of both its words holds of all exactly when it holds of each word
abbrev pub GatheredBy : List ℕ → ℕ → Type 0
GatheredBy words all =
    (test : ℕ → Bool) → test 0 ≡ true → ((a b : ℕ) → test (bit_or a b) ≡ (test a && test b)) → test all ≡ every (λ i. test (get_or words i 0)) (length words) 0

-- a slot's register: "MODE 1, WPRI zero, distinct SDIDs". A mark for each SDID that was not met before
unfoldable pub register_step : Layout → Marks → Slot → Scan
register_step L marks slot =
    if is_open slot then
    (if eqb (mode_of L (register slot)) 1 then
    (if eqb (wpri_of L (register slot)) 0 then take_mark marks (sdid_of L (register slot)) else unsound)
    else unsound)
    else marked marks

module _ (F : Frame) where
  -- a page is lent and was not met before
  unfoldable pub claim_of : Marks → ℕ → Scan
  claim_of marks page = if lent F page then take_mark marks (page - F.first) else unsound

  module _ (m : List ℕ) where
    -- the page that a TYPE 4 entry names
    unfoldable pub link_step : Marks → ℕ → Scan
    link_step marks page = then_scan (claim_of marks page) (scanned (clean_page F m page))

    abbrev pub entry_step : Marks → Entry → Scan
    entry_step marks (flat p) = marked marks
    entry_step marks (pieces info) = marked marks
    entry_step marks (table page) = link_step marks page
    entry_step marks invalid = unsound

    -- the entries whose words start at word at
    abbrev pub word_step : ℕ → Marks → ℕ → Scan
    word_step at marks b = entry_step marks (decode F.layout (get_or m (at + b) 0))

    -- a root's entries, and before them the root itself
    abbrev pub block_step : ℕ → Marks → ℕ → Scan
    block_step root marks b = entry_step marks (entry_at F m root b)

    unfoldable pub root_step : Marks → ℕ → Scan
    root_step marks root = then_scan (claim_of marks root) (λ after. scan_run (block_step root) after (blocks F) 0)

    unfoldable pub slot_step : Marks → Slot → Scan
    slot_step marks slot = if is_open slot then root_step marks (ppn_of F.layout (register slot)) else marked marks
