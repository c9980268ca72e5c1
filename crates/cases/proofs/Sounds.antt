-- Whether a table is sound, with the words of L1 pages read quickly: the same, and quick.
use mathlib.Core.Path.{◌≡◌, refl, ap, fun_ext}
use mathlib.Core.Bool.{Bool, true, false, ◌&&◌}
use mathlib.Core.List.{List}
use Prim.Native.Nat.{ℕ}
use Rattle.model.specs.Numbers.{every, each, distinct}
use Rattle.model.specs.Entry.{Entry, flat, pieces, table, invalid, clean}
use Rattle.model.specs.Frame.{Frame, blocks, lent}
use Rattle.model.specs.Walk.{root_pages, entry_at}
use Rattle.model.specs.Sound.{Slot, roots, sound_slots, used, clean_page, sound_entry, sound_root, sound_table, sound}
use Rattle.laws.proofs.Peeks.{peek, word_is_peek}

module _ (F : Frame) (m : List ℕ) where
  unfoldable pub quick_clean : ℕ → Bool
  quick_clean page = every (λ i. clean F.layout (peek F m page i)) F.layout.words 0

  clean_quick : (page : ℕ) → clean_page F m page ≡ quick_clean page
  unfolding clean_page quick_clean
  clean_quick page =
      ap (λ (f : ℕ → ℕ). every (λ i. clean F.layout (f i)) F.layout.words 0) (fun_ext λ i. word_is_peek F m page i)

  unfoldable pub quick_entry : Entry → Bool
  quick_entry (flat p) = true
  quick_entry (pieces info) = true
  quick_entry (table page) = lent F page && quick_clean page
  quick_entry invalid = false

  entry_quick : (e : Entry) → sound_entry F m e ≡ quick_entry e
  unfolding sound_entry quick_entry
  entry_quick (flat p) = refl
  entry_quick (pieces info) = refl
  entry_quick (table page) = ap (λ (c : Bool). lent F page && c) (clean_quick page)
  entry_quick invalid = refl

  abbrev sound_by : (Entry → Bool) → List Slot → Bool
  sound_by test slots =
      sound_slots F slots
      && (each (λ root. each (lent F) (root_pages F root) && every (λ b. test (entry_at F m root b)) (blocks F) 0) (roots F slots) && distinct (used F m (roots F slots)))

  unfoldable pub quick_sound : List Slot → Bool
  quick_sound slots = sound_by quick_entry slots

  pub sound_quick : (slots : List Slot) → sound F m slots ≡ quick_sound slots
  unfolding sound sound_table sound_root quick_sound
  sound_quick slots = ap (λ (test : Entry → Bool). sound_by test slots) (fun_ext entry_quick)
