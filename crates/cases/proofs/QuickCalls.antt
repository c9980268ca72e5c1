-- An edit with its finished forms, its stores, its memory and the test for a sound table each computed quickly: the same.
-- Open likewise; and two of its refusals, and a close, from a table that is known to be sound.
use Rattle.std.specs.Prelude.{if◌then◌else◌}
use mathlib.Core.Path.{◌≡◌, refl, ap, ap₂, ◌∙◌}
use mathlib.Core.Bool.{Bool, true, false, not, ◌&&◌, ◌||◌}
use mathlib.Core.List.{List, [], ◌∷◌, head_d}
use Prim.Native.Nat.{ℕ, ◌*◌, ◌<◌}
use lib.Dec.{eqb, ltb}
use lib.ListN.{length, take, replicate}
use Rattle.model.specs.Numbers.{member}
use Rattle.model.specs.Layout.{gib_blocks, piece_pages, slot_count, max_sdid}
use Rattle.model.specs.Frame.{Frame, frame_ok, index_of}
use Rattle.model.specs.Sound.{Slot, is_open, roots, sdids, sound, free_pages}
use Rattle.model.specs.Forms.{Request, Form, first_gib}
use Rattle.model.specs.Stores.{Store, new_pages}
use Rattle.model.specs.Fence.{no_fence}
use Rattle.model.specs.Calls.{Outcome, refused_with, opened, closed, first_met, slot_at, bad_range, write_execute, meets_lent, root_of, refuse, open_refusal, open_at, open_slot, close_refusal, close_slot, edit_refusal_with, store_list_with, made, edit_with, edit_slot}
use Rattle.laws.proofs.PageRuns.{quick_forms, edit_quick}
use Rattle.cases.proofs.QuickPasses.{passes, apply_passes, pasted, sets_pasted}
use Rattle.cases.proofs.QuickStores.{quick_stores, stores_quick}
use Rattle.cases.proofs.Sounds.{quick_sound, sound_quick}

-- ---- edit

module _ (F : Frame) (pos : 0 < piece_pages F.layout) (m : List ℕ) (slots : List Slot) (q : Request) where
  abbrev root : ℕ
  root = root_of F slots q

  abbrev refusal_by : Bool → List Form → ℕ
  refusal_by isSound fs =
      first_met
      ((1, not (frame_ok F m))
      ∷ (3, not isSound)
      ∷ (4, not (ltb q.slot slot_count) || not (is_open (slot_at slots q.slot)))
      ∷ (5, bad_range F q)
      ∷ (10, write_execute q)
      ∷ (6, not (eqb q.permission 0) && meets_lent F q)
      ∷ (7, ltb (length (free_pages F m (roots F slots))) (new_pages F m root (first_gib q * gib_blocks) fs))
      ∷ [])

  unfoldable pub quick_refusal : List Form → ℕ
  quick_refusal fs = refusal_by (quick_sound F m slots) fs

  unfoldable pub quick_list : List Form → List Store
  quick_list fs = quick_stores F pos m q root (first_gib q * gib_blocks) fs (free_pages F m (roots F slots))

  -- three passes are enough for every edit of the cases
  unfoldable pub quick_made : List Store → ℕ → Outcome
  quick_made whole limit =
      record {
        reply = (made F m slots q whole limit).reply;
        memory = passes 3 (take limit whole) m;
        slots = slots;
        fence = (made F m slots q whole limit).fence;
      }

  unfoldable pub quick_with : List Form → ℕ → Outcome
  quick_with fs limit = if eqb (quick_refusal fs) 0 then quick_made (quick_list fs) limit else refuse F m slots (quick_refusal fs)

  refusal_quick : (fs : List Form) → edit_refusal_with F m slots q fs ≡ quick_refusal fs
  unfolding edit_refusal_with quick_refusal
  refusal_quick fs = ap (λ (s : Bool). refusal_by s fs) (sound_quick F m slots)

  pub list_quick : (fs : List Form) → store_list_with F m slots q fs ≡ quick_list fs
  unfolding store_list_with quick_list
  list_quick fs = stores_quick F pos m q root (first_gib q * gib_blocks) fs (free_pages F m (roots F slots))

  made_quick : (whole : List Store) (limit : ℕ) → made F m slots q whole limit ≡ quick_made whole limit
  unfolding made quick_made
  made_quick whole limit =
      ap (λ (l : List ℕ). record { reply = (made F m slots q whole limit).reply; memory = l; slots = slots; fence = (made F m slots q whole limit).fence })
      (apply_passes 3 (take limit whole) m)

  pub edit_is_quick : (limit : ℕ) → edit_slot F m slots q limit ≡ quick_with (quick_forms F m q root pos) limit
  unfolding edit_with quick_with
  edit_is_quick limit =
      edit_quick F pos m slots q limit
      ∙ ap₂ (λ (n : ℕ) (o : Outcome). if eqb n 0 then o else refuse F m slots n) (refusal_quick (quick_forms F m q root pos))
      (ap (λ (l : List Store). made F m slots q l limit) (list_quick (quick_forms F m q root pos))
      ∙ made_quick (quick_list (quick_forms F m q root pos)) limit)

-- ---- open

module _ (F : Frame) (m : List ℕ) (slots : List Slot) (s sdid : ℕ) where
  unfoldable pub quick_open_at : ℕ → Outcome
  quick_open_at root =
      record {
        reply = opened;
        memory = pasted m (index_of F root 0) (replicate F.layout.words 0);
        slots = (open_at F m slots root s sdid).slots;
        fence = no_fence;
      }

  open_at_quick : (root : ℕ) → open_at F m slots root s sdid ≡ quick_open_at root
  unfolding open_at quick_open_at
  open_at_quick root =
      ap (λ (l : List ℕ). record { reply = opened; memory = l; slots = (open_at F m slots root s sdid).slots; fence = no_fence })
      (sets_pasted m (index_of F root 0) (replicate F.layout.words 0))

  unfoldable pub quick_open : Outcome
  quick_open =
      if eqb (open_refusal F m slots s sdid) 0 then quick_open_at (head_d (free_pages F m (roots F slots)) 0) else
      refuse F m slots (open_refusal F m slots s sdid)

  pub open_is_quick : open_slot F m slots s sdid ≡ quick_open
  unfolding open_slot quick_open
  open_is_quick =
      ap (λ (o : Outcome). if eqb (open_refusal F m slots s sdid) 0 then o else refuse F m slots (open_refusal F m slots s sdid))
      (open_at_quick (head_d (free_pages F m (roots F slots)) 0))

  -- of a sound table and an empty slot
  module _ (ok : frame_ok F m ≡ true) (sounds : sound F m slots ≡ true) (empty : (not (ltb s slot_count) || is_open (slot_at slots s)) ≡ false) where
    -- an SDID that is held is refused with 8, whatever pages are free
    pub held_is_8 : (ltb max_sdid sdid || member sdid (sdids F slots)) ≡ true → (open_slot F m slots s sdid).reply ≡ refused_with 8
    unfolding open_slot open_refusal first_met refuse
    held_is_8 held = rw (ok, sounds, empty, held) refl

    pub full_is_7 : (ltb max_sdid sdid || member sdid (sdids F slots)) ≡ false → eqb (length (free_pages F m (roots F slots))) 0 ≡ true → (open_slot F m slots s sdid).reply ≡ refused_with 7
    unfolding open_slot open_refusal first_met refuse
    full_is_7 free full = rw (ok, sounds, empty, free, full) refl

-- ---- close

module _ (F : Frame) (m : List ℕ) (slots : List Slot) (s : ℕ) where
  pub sound_closes : frame_ok F m ≡ true → sound F m slots ≡ true → (not (ltb s slot_count) || not (is_open (slot_at slots s))) ≡ false → (close_slot F m slots s).reply ≡ closed
  unfolding close_slot close_refusal first_met
  sound_closes ok sounds held = rw (ok, sounds, held) refl
