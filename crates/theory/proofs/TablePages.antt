-- The table pages of a sound table: roots, and pages that an entry names; all are lent.
use mathlib.Core.Path.{◌≡◌, sym, ◌∙◌}
use mathlib.Core.Bool.{true, true≢false}
use mathlib.Core.List.{List}
use Prim.Native.Nat.{ℕ, ◌+◌, ◌≤◌, ◌<◌}
use native.Mathlib.Omega.{arith}
use lib.Dec.{ltb}
use borrow.Author.Tests.{ltb-true, ltb-false}
use Rattle.model.specs.Numbers.{member}
use Rattle.model.specs.Frame.{Frame, frame_ok, lent}
use Rattle.model.specs.Sound.{Slot, roots, used, sound, sound_slots, sound_table}
use Rattle.model.specs.Apart.{table_page}
use Rattle.laws.proofs.Choices.{split, and_true}
use Rattle.laws.proofs.Sums.{times_measure}
use Rattle.laws.proofs.Times.{times, member_some, member_none}
use Rattle.theory.proofs.Used.{links, pages_of, used_measure}
use Rattle.theory.proofs.Entries.{Lawful}
use Rattle.theory.proofs.Frames.{frame_ok_lem}
use Rattle.theory.proofs.Tables.{Sound, to_sound}

member_times : (x : ℕ) (l : List ℕ) → member x l ≡ true → 0 < times x l
member_times x l h =
    split (ltb 0 (times x l)) (ltb-true 0 (times x l))
    (λ q. let none : times x l ≤ 0 = ltb-false 0 (times x l) q in absurd (true≢false (sym h ∙ member_none x l (omega arith))))

module _ (F : Frame) (lawful : Lawful F.layout) (slots : List Slot) (m : List ℕ) (frame : frame_ok F m ≡ true) (good : sound F m slots ≡ true) where
  abbrev rs : List ℕ
  rs = roots F slots

  pub sounds : Sound F rs m
  unfolding sound
  sounds = to_sound F rs m (frame_ok_lem F m lawful frame).1 (and_true (sound_slots F slots) (sound_table F m rs) good).1

  -- roots and named pages are table pages
  pub in_use : (page : ℕ) → 0 < times page (pages_of F rs) + times page (links F m rs) → table_page F m slots page ≡ true
  unfolding table_page
  in_use page l = member_some page (used F m rs) (omega (arith, used_measure F (times page) (times_measure page) m rs))

  pub table_lent : (page : ℕ) → table_page F m slots page ≡ true → lent F page ≡ true
  unfolding table_page
  table_lent page h =
      let n : 0 < times page (used F m rs) = member_times page (used F m rs) h in
      split (ltb 0 (times page (pages_of F rs)))
      (λ q. sounds.roots_lent page (ltb-true _ _ q))
      (λ q. let none : times page (pages_of F rs) ≤ 0 = ltb-false _ _ q in
      sounds.links_lent page (omega (arith, used_measure F (times page) (times_measure page) m rs)))
