-- What our own calls keep of who has which page.
use Rattle.std.specs.Prelude.{◌≡◌, ◌⊎◌, ◌≢◌, true, false, ℕ, ◌+◌, ◌*◌, ◌≤◌, ◌<◌, eqb, length, take, replicate, if◌then◌else◌}
use mathlib.Core.List.{List, [], ◌∷◌, head_d}
use Rattle.std.proofs.lemmas.List.Edits.{sets}
use Rattle.model.specs.Layout.{page_bytes, slot_count}
use Rattle.model.specs.Frame.{Frame, index_of, lent}
use Rattle.model.specs.Sound.{Slot, empty_slot, roots, free_pages}
use Rattle.model.specs.Forms.{Request}
use Rattle.model.specs.Calls.{register_for, open_refusal, open_slot, close_slot, edit_refusal}
use Rattle.model.specs.Apart.{opens, writes}
use Rattle.model.specs.Demands.{Domain, Accepted, calls}

module _ (F : Frame) (slots : List Slot) where
  -- no lent page, in use or free, is open to any: more than "no table page open to any"
  abbrev pub Shut : List ℕ → Type 0
  Shut m = (r page : ℕ) → Domain F slots r → lent F page ≡ true → opens F m r page ≡ false

  -- a domain has a page as before
  pub record SameRights (m m' : List ℕ) (r page : ℕ) : Type 0 where
    pub opened : opens F m' r page ≡ opens F m r page
    pub written : writes F m' r page ≡ writes F m r page

  module _ (q : Request) where
    -- what an edit does not name: other domains, and pages that are not in its range
    abbrev pub Unnamed : ℕ → ℕ → Type 0
    Unnamed r page = (r ≢ register_for slots q) ⊎ ((page * page_bytes < q.start) ⊎ (q.start + q.size ≤ page * page_bytes))

    -- what an edit, cut or whole, keeps
    pub record Keeps (m m' : List ℕ) : Type 0 where
      pub shut : Shut m → Shut m'
      pub rights : (r page : ℕ) → Domain F slots r → Unnamed r page → SameRights m m' r page

-- ---- any calls, one after the other

-- an edit is cut anywhere, any number of times (a number for each cut, as in the third demand); an opening after any number of the words that it
-- zeroes. A close writes no byte
pub data Call : Type 0 where
  opening : (slot sdid : ℕ) → Call
  cut_opening : (slot sdid words : ℕ) → Call
  closing : (slot : ℕ) → Call
  editing : Request → List ℕ → Call

-- there are four permissions
abbrev pub FourPermissions : List Call → Type 0
FourPermissions [] = Unit {0}
FourPermissions (opening slot sdid ∷ cs) = FourPermissions cs
FourPermissions (cut_opening slot sdid words ∷ cs) = FourPermissions cs
FourPermissions (closing slot ∷ cs) = FourPermissions cs
FourPermissions (editing q cuts ∷ cs) = (q.permission < 4) × FourPermissions cs

module _ (F : Frame) where
  -- an opening that is cut has zeroed the first words of the lowest free page, and set no slot
  unfoldable pub zeroed_to : List ℕ → List Slot → ℕ → List ℕ
  zeroed_to m slots words = sets m (index_of F (head_d (free_pages F m (roots F slots)) 0) 0) (take words (replicate F.layout.words 0))

  -- the memory and the slots that a call leaves of those that it finds: those, if it is refused
  unfoldable pub leaves : List ℕ × List Slot → Call → List ℕ × List Slot
  leaves (m, slots) (opening slot sdid) = ((open_slot F m slots slot sdid).memory, (open_slot F m slots slot sdid).slots)
  leaves (m, slots) (cut_opening slot sdid words) = (if eqb (open_refusal F m slots slot sdid) 0 then zeroed_to m slots words else m, slots)
  leaves (m, slots) (closing slot) = ((close_slot F m slots slot).memory, (close_slot F m slots slot).slots)
  leaves (m, slots) (editing q cuts) = (if eqb (edit_refusal F m slots q) 0 then calls F slots q cuts m else m, slots)

  unfoldable pub history : List ℕ × List Slot → List Call → List ℕ × List Slot
  history t [] = t
  history t (c ∷ cs) = history (leaves t c) cs

  -- ---- the claims

  -- an edit, cut anywhere, opens no lent page and changes what a domain has of a page only if it names both
  abbrev pub EditsKeep : Type 0
  EditsKeep =
      (m : List ℕ) (slots : List Slot) (q : Request) (cuts : List ℕ)
      → q.permission < 4
      → Accepted F slots q m
      → Keeps F slots q m (calls F slots q cuts m)

  -- our calls never open a lent page
  abbrev pub StaysShut : Type 0
  StaysShut =
      (m : List ℕ) (slots : List Slot) (cs : List Call)
      → length slots ≡ slot_count
      → FourPermissions cs
      → Shut F slots m
      → Shut F (history (m, slots) cs).1 (history (m, slots) cs).0

  -- so in what they make of empty slots, whatever the memory first held, none is open
  abbrev pub AlwaysShut : Type 0
  AlwaysShut =
      (m : List ℕ) (cs : List Call)
      → FourPermissions cs
      → Shut F (history (m, replicate slot_count empty_slot) cs).1 (history (m, replicate slot_count empty_slot) cs).0
