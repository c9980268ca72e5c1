-- What is to be shown of edits: the second and the third demand of document 00, as statements. Beside each part stand the words of its demand,
-- which is named there, or those of document 01 that say what they mean.
use Rattle.std.specs.Prelude.{◌≡◌, ◌⊎◌, ◌≢◌, true, ℕ, suc, ◌+◌, ◌*◌, ◌-◌, ◌^◌, ◌≤◌, ◌<◌, length, take, get_or}
use mathlib.Core.List.{List, [], ◌∷◌, Memᴰ}
use Rattle.model.specs.Layout.{gib_blocks}
use Rattle.model.specs.Entry.{Entry, flat, pieces, table, perm}
use Rattle.model.specs.Frame.{Frame, page_of, blocks}
use Rattle.model.specs.Walk.{entry_at, walk}
use Rattle.model.specs.Access.{Kind}
use Rattle.model.specs.Lookup.{reads}
use Rattle.model.specs.Sound.{Slot, open_registers, roots, sound, free_pages}
use Rattle.model.specs.Forms.{Request, Form, want_flat, want_pieces, want_table, first_gib, forms}
use Rattle.model.specs.Stores.{apply}
use Rattle.model.specs.Calls.{register_for, root_of, edit_refusal, store_list, edit_slot}

-- What the types of the code say, and nothing more: an entry has so many bits (64 on RV64), and there are four permissions
pub record Typed (F : Frame) (q : Request) (m : List ℕ) : Type 0 where
  pub words : (i : ℕ) → get_or m i 0 < 16 ^ F.layout.fields
  pub permission : q.permission < 4

-- an entry is of a finished form
abbrev pub IsForm : Form → Entry → Type 0
IsForm (want_flat p) e = e ≡ flat p
IsForm (want_pieces info) e = e ≡ pieces info
IsForm want_table e = (t : ℕ) × (e ≡ table t)

module _ (F : Frame) (slots : List Slot) where
  -- "A domain is that of an open slot", here by its register
  abbrev pub Domain : ℕ → Type 0
  Domain r = Memᴰ r (open_registers slots)

  -- an address of a domain reads the same in two memories, "for each kind of access, allowed or which fault"
  abbrev pub SameAt : List ℕ → List ℕ → ℕ → ℕ → Type 0
  SameAt m m' r address = (kind : Kind) → reads F m r address kind ≡ reads F m' r address kind

  -- "Permissions are the same if every address of every domain reads the same."
  abbrev pub SamePermissions : List ℕ → List ℕ → Type 0
  SamePermissions m m' = (r : ℕ) → Domain r → (address : ℕ) → SameAt m m' r address

  -- "every address of every domain reads as before the first call or as after the edit made whole at once, never a third thing" (the third
  -- demand)
  abbrev pub BeforeOrAfter : List ℕ → List ℕ → List ℕ → Type 0
  BeforeOrAfter before afterwards m = (r : ℕ) → Domain r → (address : ℕ) → SameAt m before r address ⊎ SameAt m afterwards r address

  -- "the same number of free pages" (the third demand)
  unfoldable pub free_count : List ℕ → ℕ
  free_count m = length (free_pages F m (roots F slots))

  module _ (q : Request) where
    -- "An edit is accepted where no refusal fits it."
    abbrev pub Accepted : List ℕ → Type 0
    Accepted m = edit_refusal F m slots q ≡ 0

    -- "Stopped after k stores, by limit or reset, a call leaves the memory it found with the first k stores of its ordered list made
    -- (all, if it has no more) and no others, and the slots as they were."
    unfoldable pub stopped : ℕ → List ℕ → List ℕ
    stopped k m = apply (take k (store_list F m slots q)) m

    -- "'After' is the memory that the first call finds, with its whole list stored."
    unfoldable pub whole : List ℕ → List ℕ
    whole m = apply (store_list F m slots q) m

    -- "The calls share frame, slot, start, length and permission; each one's list follows from the memory and slots it finds."
    unfoldable pub calls : List ℕ → List ℕ → List ℕ
    calls [] m = m
    calls (k ∷ ks) m = calls ks (stopped k m)

    -- ---- Demand 2: what an edit that made all its stores leaves
    pub record Done (m m' : List ℕ) : Type 0 where
      -- "After a completed edit each address in the asked range has the asked permission" (the second demand)
      pub inside :
          (address : ℕ) → q.start ≤ address → address < q.start + q.size → walk F m' (root_of F slots q) (page_of address) ≡ perm q.permission
      -- "and every other address, in this domain and the rest, reads as it did" (the second demand): of the edited domain, and of each other
      pub outside : (address : ℕ) → (address < q.start) ⊎ (q.start + q.size ≤ address) → SameAt m' m (register_for slots q) address
      pub others : (r : ℕ) → Domain r → r ≢ register_for slots q → (address : ℕ) → SameAt m' m r address
      -- the next call finds a sound table
      pub still_sound : sound F m' slots ≡ true
      -- "Over every GiB that the range touches, the finished form is fixed"
      pub formed :
          (i : ℕ) → i < length (forms F m q (root_of F slots q))
          → IsForm (get_or (forms F m q (root_of F slots q)) i want_table) (entry_at F m' (root_of F slots q) (first_gib q * gib_blocks + i))

    abbrev pub Demand2 : Type 0
    Demand2 =
        (m : List ℕ) (limit : ℕ)
        → Typed F q m
        → Accepted m
        → length (store_list F m slots q) ≤ limit
        → Done m (edit_slot F m slots q limit).memory

    -- ---- Demand 3: what holds of the memory m' that calls leave which were stopped anywhere; m is the one that the first found
    pub record Steady (m m' : List ℕ) : Type 0 where
      -- "Every one of these calls is accepted." (the third demand, here and in the next three)
      pub accepted : Accepted m'
      -- "After each of their stores, and at each stop, every address of every domain reads as before the first call or as after the edit made
      -- whole at once"
      pub steady : BeforeOrAfter m (whole m) m'
      -- "Any of the calls that makes all its stores ends in the same permissions"
      pub same_permissions : SamePermissions (whole m') (whole m)
      -- "and the same number of free pages as if the edit had never stopped"
      pub same_free : free_count (whole m') ≡ free_count (whole m)
      -- "With B blocks in the address space the count is at most B - 2 + 1,026, so 1,536 at PAW 34"
      pub few_stores : length (store_list F m' slots q) ≤ blocks F - 2 + 2 * suc F.layout.words

    -- "It is one claim over every list of such numbers k, one k for each call; a claim about a single call is not enough." The memory between
    -- any two stores is among those that it speaks of: it is what a list of cuts leaves whose last is that store's number
    abbrev pub Demand3 : Type 0
    Demand3 = (m : List ℕ) → Typed F q m → Accepted m → (ks : List ℕ) → Steady m (calls ks m)
