-- What the call answers that tests whether the domains are kept apart: worked cases on the bench of `Witness`, as one list (`answer_cases`).
use Rattle.std.specs.Prelude.{◌≡◌, true, false, List, [], ◌∷◌, ℕ, replicate, set}
use Rattle.model.specs.Layout.{rv64}
use Rattle.model.specs.Frame.{Frame}
use Rattle.model.specs.Sound.{Slot, empty_slot}
use Rattle.model.specs.Apart.{Strength, strict, sharing, Separation, refused_apart, apart, table_open, page_shared, apart_answer}
use Rattle.witness.specs.Witness.{F, r0, slots, words}

-- ---- tables: that of the strict bench, where page 0 is rw to the first domain and page 1 to the second, and other words in the L1 pages. The
-- first two entries of an L1 page, which speak for pages 0 to 15 and 16 to 31, are words 1024 and 1025 of the first domain, 1536 and 1537 of the
-- second

-- page 1 is rx, or rw, to the first domain too
unfoldable pub read_below : List ℕ
read_below = set (words strict) 1024 0x012

unfoldable pub written_twice : List ℕ
written_twice = set (words strict) 1024 0x022

-- page 0 is rx to the second domain too
unfoldable pub read_above : List ℕ
read_above = set (words strict) 1536 0x021

-- page 16, the root of the first domain, is rw to the first; to the second; to both; rx to the first and rw to the second
unfoldable pub root_to_first : List ℕ
root_to_first = set (words strict) 1025 0x002

unfoldable pub root_to_second : List ℕ
root_to_second = set (words strict) 1537 0x002

unfoldable pub root_to_both : List ℕ
root_to_both = set (set (words strict) 1025 0x002) 1537 0x002

unfoldable pub root_read_below : List ℕ
root_read_below = set (set (words strict) 1025 0x001) 1537 0x002

-- page 18, the L1 page of the first domain, is rx to it
unfoldable pub own_read : List ℕ
own_read = set (words strict) 1025 0x100

-- page 1 is rx to the first domain too, and page 16 rw to it
unfoldable pub two_faults : List ℕ
two_faults = set (set (words strict) 1024 0x012) 1025 0x002

-- ---- slots, and a frame

-- the first domain's register stands in two slots
unfoldable pub one_register : List Slot
one_register = r0 ∷ r0 ∷ replicate 6 empty_slot

-- PAW 29
abbrev pub narrow : Frame
narrow = record { layout = rv64; paw = 29; first = 16; pages = 4 }

-- ---- the cases

abbrev pub asked : Strength → List ℕ → Separation
asked s m = apart_answer F m slots s

abbrev pub answer_cases : List (Type 0)
answer_cases =
    -- a page rw to each, and none to the other
    (asked strict (words strict) ≡ apart)
    ∷ (asked sharing (words strict) ≡ apart)
    -- and page 2 rx to both
    ∷ (asked strict (words sharing) ≡ page_shared 2 0 1 false)
    ∷ (asked sharing (words sharing) ≡ apart)
    -- page 1 rx to the lower slot and rw to the higher; page 0 rw to the lower and rx to the higher; page 1 rw to both
    ∷ ((s : Strength) → asked s read_below ≡ page_shared 1 0 1 true)
    ∷ ((s : Strength) → asked s read_above ≡ page_shared 0 0 1 true)
    ∷ ((s : Strength) → asked s written_twice ≡ page_shared 1 0 1 true)
    -- a root rw to one; to both, which is told as an open table page
    ∷ ((s : Strength) → asked s root_to_first ≡ table_open 16 0 true)
    ∷ ((s : Strength) → asked s root_to_second ≡ table_open 16 1 true)
    ∷ ((s : Strength) → asked s root_to_both ≡ table_open 16 0 true)
    -- a root rx to the lower slot and rw to the higher
    ∷ (asked strict root_read_below ≡ table_open 16 0 false)
    ∷ (asked sharing root_read_below ≡ table_open 16 1 true)
    -- an L1 page rx to its own domain
    ∷ (asked strict own_read ≡ table_open 18 0 false)
    ∷ (asked sharing own_read ≡ apart)
    -- a page that is shared below a table page that is open
    ∷ ((s : Strength) → asked s two_faults ≡ page_shared 1 0 1 true)
    -- not sound; a frame out of its bounds, whatever else there is
    ∷ ((s : Strength) → apart_answer F (words strict) one_register s ≡ refused_apart 3)
    ∷ ((s : Strength) → apart_answer narrow (words strict) slots s ≡ refused_apart 1)
    ∷ ((s : Strength) → apart_answer narrow (words strict) one_register s ≡ refused_apart 1)
    ∷ []
