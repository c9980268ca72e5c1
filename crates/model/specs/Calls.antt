-- Open, close and edit: what each answers, and the memory, the slots and the fence that it leaves. (The lookup is in `Lookup`.)
use Rattle.std.specs.Prelude.{Bool, not, ◌&&◌, ◌||◌, ℕ, ◌+◌, ◌*◌, ◌%◌, ◌^◌, eqb, ltb, leb, get_or, set, length, take, replicate, if◌then◌else◌}
use mathlib.Core.List.{List, [], ◌∷◌, head_d}
use Rattle.std.proofs.lemmas.List.Edits.{sets}
use Rattle.model.specs.Numbers.{member}
use Rattle.model.specs.Layout.{page_bytes, gib_blocks, slot_count, max_sdid}
use Rattle.model.specs.Register.{ppn_of, sdid_of, register_of}
use Rattle.model.specs.Frame.{Frame, frame_ok, index_of}
use Rattle.model.specs.Sound.{Slot, register, empty_slot, is_open, roots, sdids, sound, free_pages}
use Rattle.model.specs.Forms.{Request, Form, forms, first_gib}
use Rattle.model.specs.Stores.{Store, apply, new_pages, stores_from}
use Rattle.model.specs.Fence.{Fence, no_fence, domain_fence, fence_for}

-- Refused with a number; opened; closed; or edited: "how many stores it made and whether that was all"
pub data Reply : Type 0 where
  refused_with : ℕ → Reply
  opened : Reply
  closed : Reply
  edited : ℕ → Bool → Reply

-- What a call leaves
pub record Outcome : Type 0 where
  pub reply : Reply
  pub memory : List ℕ
  pub slots : List Slot
  pub fence : Fence

-- the number of the first refusal whose test is met, or 0 where none is
unfoldable pub first_met : List (ℕ × Bool) → ℕ
first_met [] = 0
first_met ((n, met) ∷ rest) = if met then n else first_met rest

unfoldable pub slot_at : List Slot → ℕ → Slot
slot_at slots s = get_or slots s empty_slot

-- "length 0, start or length not a multiple of 4,096, or start + length (no wrap) above 2^PAW"
unfoldable pub bad_range : Frame → Request → Bool
bad_range F q =
    eqb q.size 0 || not (eqb (q.start % page_bytes) 0) || not (eqb (q.size % page_bytes) 0) || ltb (2 ^ F.paw) (q.start + q.size)

-- "the range meets the lent pages"
unfoldable pub meets_lent : Frame → Request → Bool
meets_lent F q = ltb q.start ((F.first + F.pages) * page_bytes) && ltb (F.first * page_bytes) (q.start + q.size)

-- Document 02, item 6: "An edit asking for rwx in slots 1 to 7 .. Slot 0 keeps it." (Slots above 7 have their own number, 4, before it.)
unfoldable pub write_execute : Request → Bool
write_execute q = eqb q.permission 3 && not (eqb q.slot 0)

-- the register of the slot that an edit names, and its root page
unfoldable pub register_for : List Slot → Request → ℕ
register_for slots q = register (slot_at slots q.slot)

unfoldable pub root_of : Frame → List Slot → Request → ℕ
root_of F slots q = ppn_of F.layout (register_for slots q)

module _ (F : Frame) (m : List ℕ) (slots : List Slot) where
  -- "A refusal returns its number, changes no byte and no slot, and asks for no fence."
  unfoldable pub refuse : ℕ → Outcome
  refuse n = record { reply = refused_with n; memory = m; slots = slots; fence = no_fence }

  -- 1, "frame breaks its bounds", and 3, "table not sound", which all three calls share
  abbrev bad_frame : ℕ × Bool
  bad_frame = (1, not (frame_ok F m))

  abbrev not_sound : ℕ × Bool
  not_sound = (3, not (sound F m slots))

  -- ---- open
  -- 4, "slot above 7; .. in use for open"; 8, "SDID above 63 or held by another open slot"; 7, "no free page for a root": "8 .. before 7"
  unfoldable pub open_refusal : ℕ → ℕ → ℕ
  open_refusal s sdid =
      first_met
      (bad_frame
      ∷ not_sound
      ∷ (4, not (ltb s slot_count) || is_open (slot_at slots s))
      ∷ (8, ltb max_sdid sdid || member sdid (sdids F slots))
      ∷ (7, eqb (length (free_pages F m (roots F slots))) 0)
      ∷ [])

  -- "takes the lowest free page, zeroes it and sets the register ..; no other byte or slot changes and no fence is asked"
  unfoldable pub open_at : ℕ → ℕ → ℕ → Outcome
  open_at root s sdid =
      record {
        reply = opened;
        memory = sets m (index_of F root 0) (replicate F.layout.words 0);
        slots = set slots s (register_of F.layout sdid root);
        fence = no_fence;
      }

  unfoldable pub open_slot : ℕ → ℕ → Outcome
  open_slot s sdid =
      if eqb (open_refusal s sdid) 0 then open_at (head_d (free_pages F m (roots F slots)) 0) s sdid else refuse (open_refusal s sdid)

  -- ---- close
  -- 4, "slot above 7; empty for close or edit"
  unfoldable pub close_refusal : ℕ → ℕ
  close_refusal s = first_met (bad_frame ∷ not_sound ∷ (4, not (ltb s slot_count) || not (is_open (slot_at slots s))) ∷ [])

  -- "Closing empties the slot, writes no byte and asks for a domain fence."
  unfoldable pub close_slot : ℕ → Outcome
  close_slot s =
      if eqb (close_refusal s) 0 then
      record { reply = closed; memory = m; slots = set slots s empty_slot; fence = domain_fence (sdid_of F.layout (register (slot_at slots s))) }
      else refuse (close_refusal s)

  -- ---- edit
  module _ (q : Request) where
    abbrev root : ℕ
    root = root_of F slots q

    unfoldable pub finished : List Form
    finished = forms F m q root

    -- 5; 10, "tested after 5 and before 6" (document 02, item 6); 6, "permission not none and the range meets the lent pages"; and 7, "the
    -- whole edit, whatever its limit, needs more new pages than are free before it". fs is the finished form: it is handed in so that it is
    -- computed once
    unfoldable pub edit_refusal_with : List Form → ℕ
    edit_refusal_with fs =
        first_met
        (bad_frame
        ∷ not_sound
        ∷ (4, not (ltb q.slot slot_count) || not (is_open (slot_at slots q.slot)))
        ∷ (5, bad_range F q)
        ∷ (10, write_execute q)
        ∷ (6, not (eqb q.permission 0) && meets_lent F q)
        ∷ (7, ltb (length (free_pages F m (roots F slots))) (new_pages F m root (first_gib q * gib_blocks) fs))
        ∷ [])

    -- "The stores, in order, block by block upward through the touched GiBs"
    unfoldable pub store_list_with : List Form → List Store
    store_list_with fs = stores_from F m q root (first_gib q * gib_blocks) fs (free_pages F m (roots F slots))

    unfoldable pub edit_refusal : ℕ
    edit_refusal = edit_refusal_with finished

    unfoldable pub store_list : List Store
    store_list = store_list_with finished

    -- "The call makes the first of these up to the limit, and says how many stores it made and whether that was all."
    unfoldable pub made : List Store → ℕ → Outcome
    made whole limit =
        record {
          reply = edited (length (take limit whole)) (leb (length whole) limit);
          memory = apply (take limit whole) m;
          slots = slots;
          fence = fence_for F root q (sdid_of F.layout (register_for slots q)) whole limit;
        }

    unfoldable pub edit_with : List Form → ℕ → Outcome
    edit_with fs limit = if eqb (edit_refusal_with fs) 0 then made (store_list_with fs) limit else refuse (edit_refusal_with fs)

    unfoldable pub edit_slot : ℕ → Outcome
    edit_slot limit = edit_with finished limit
