-- What unfolds when a case is computed, and the quick edit of a state.
use mathlib.Core.Path.{◌≡◌, ap, ◌∙◌}
use mathlib.Core.List.{head_d}
use Prim.Native.Nat.{ℕ, ◌<◌}
use lib.Dec.{lit<}
use Rattle.model.specs.Numbers.{every, joined, each, member, distinct, digit, pack}
use Rattle.model.specs.Layout.{rv64, piece_pages}
use Rattle.model.specs.Register.{ppn_of, wpri_of, sdid_of, mode_of, register_of, is_bare, register_ok}
use Rattle.model.specs.Entry.{info_of, type_of, zero_of, decode, encode, field_of, clean}
use Rattle.model.specs.Frame.{Frame, page_of, blocks, space, lent, bounds_ok, frame_ok, index_of, word_at}
use Rattle.model.specs.Bytes.{byte_at}
use Rattle.model.specs.Walk.{pn0, pn1, pn2, piece_of, root_pages, entry_page, entry_place, l2_word, entry_at, found, walk}
use Rattle.model.specs.Access.{need_of, original_of, cause_of, column_of, may_rows, may, judge}
use Rattle.model.specs.Lookup.{is_machine, reads, lookup}
use Rattle.model.specs.Sound.{is_open, open_registers, link_of, roots, sdids, sound_register, sound_slots, free_of, links_in, used, clean_page, sound_entry, sound_root, sound_table, sound, free_pages}
use Rattle.model.specs.Forms.{Request, perm_of, in_range, first_gib, gibs, after_in, after, all_are, gib_first, gib_is_one, pieces_are_one, pieces_info, form_in, l1_word, forms_in, forms_of, forms}
use Rattle.model.specs.Stores.{apply, needs_page, store_at, store_l2, if_changed, if_changed_l2, new_pages, same_table, new_table, link_table, block_stores, stores_from}
use Rattle.model.specs.Fence.{in_root, one_l1_store, fence_for}
use Rattle.model.specs.Calls.{Outcome, first_met, slot_at, bad_range, write_execute, meets_lent, register_for, root_of, refuse, open_refusal, open_at, open_slot, close_refusal, close_slot, finished, edit_refusal_with, store_list_with, edit_refusal, store_list, made, edit_with, edit_slot}
use Rattle.laws.proofs.Peeks.{parts, page_parts, peek}
use Rattle.laws.proofs.PageRuns.{covers, misses, says, quick_after, all_one, says_one, alike, run_is, gib_by, form_by, forms_in_by, forms_by, quick_forms}
use Rattle.cases.specs.Bench.{opens, edits}
use Rattle.cases.proofs.QuickPasses.{pass, passes, pasted}
use Rattle.cases.proofs.QuickStores.{quick_word, quick_same, quick_new, quick_link, quick_block, quick_stores}
use Rattle.cases.proofs.Sounds.{quick_clean, quick_entry, quick_sound}
use Rattle.cases.proofs.QuickCalls.{quick_refusal, quick_list, quick_made, quick_with, edit_is_quick, quick_open_at, quick_open, open_is_quick}

-- to unfold this is to unfold all that it names
unfoldable pub compute : Unit {0}
unfolding every joined each member distinct digit pack ppn_of wpri_of sdid_of mode_of register_of is_bare register_ok info_of type_of zero_of decode encode field_of clean page_of blocks space lent bounds_ok frame_ok index_of word_at byte_at pn0 pn1 pn2 piece_of root_pages entry_page entry_place l2_word entry_at found walk need_of original_of cause_of column_of may_rows may judge is_machine reads lookup is_open open_registers link_of roots sdids sound_register sound_slots free_of links_in used clean_page sound_entry sound_root sound_table sound free_pages perm_of in_range first_gib gibs after_in after all_are gib_first gib_is_one pieces_are_one pieces_info form_in l1_word forms_in forms_of forms apply needs_page store_at store_l2 if_changed if_changed_l2 new_pages same_table new_table link_table block_stores stores_from in_root one_l1_store fence_for first_met slot_at bad_range write_execute meets_lent register_for root_of refuse open_refusal open_at open_slot close_refusal close_slot finished edit_refusal_with store_list_with edit_refusal store_list made edit_with edit_slot head_d parts page_parts peek covers misses says quick_after all_one says_one alike run_is gib_by form_by forms_in_by forms_by quick_forms pass passes pasted quick_word quick_same quick_new quick_link quick_block quick_stores quick_clean quick_entry quick_sound quick_refusal quick_list quick_made quick_with quick_open_at quick_open
compute = tt

abbrev pub pos : 0 < piece_pages rv64
pos = lit< tt

module _ (paw first pages : ℕ) where
  abbrev B : Frame
  B = record { layout = rv64; paw = paw; first = first; pages = pages }

  -- the edit, computed quickly
  abbrev pub quick : Outcome → Request → ℕ → Outcome
  quick o q limit = quick_with B pos o.memory o.slots q (quick_forms B o.memory q (root_of B o.slots q) pos) limit

  -- from the state in numbers and the quick edit to the edit
  pub run : {o o' o'' : Outcome} (q : Request) (limit : ℕ) → o ≡ o' → quick o' q limit ≡ o'' → edits B o q limit ≡ o''
  run {o} {o'} q limit s h = ap (λ (x : Outcome). edits B x q limit) s ∙ edit_is_quick B pos o'.memory o'.slots q limit ∙ h

  -- and to an open
  pub run_open : {o o' o'' : Outcome} (s sdid : ℕ) → o ≡ o' → quick_open B o'.memory o'.slots s sdid ≡ o'' → opens B o s sdid ≡ o''
  run_open {o} {o'} s sdid e h = ap (λ (x : Outcome). opens B x s sdid) e ∙ open_is_quick B o'.memory o'.slots s sdid ∙ h

  -- the same of an edit for the part of the outcome that f reads
  pub runs {ℓ} : {A : Type ℓ} (f : Outcome → A) {o o' : Outcome} {a : A} (q : Request) (limit : ℕ) → o ≡ o' → f (quick o' q limit) ≡ a → f (edits B o q limit) ≡ a
  runs f {o} {o'} q limit s h = ap f (run {o'' = quick o' q limit} q limit s mathlib.Core.Path.refl) ∙ h
