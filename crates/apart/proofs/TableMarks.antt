-- The table pages by the marks of the free pages; and that nothing is at fault with a page as a table's that is not lent.
use mathlib.Core.Path.{◌≡◌, refl, sym, ap, ◌∙◌}
use mathlib.Core.Bool.{Bool, true, false, not}
use mathlib.Core.List.{List, []}
use Prim.Native.Nat.{ℕ, ◌+◌, ◌-◌, ◌/◌, ◌<◌}
use native.Mathlib.Omega.{arith}
use lib.ListN.{length}
use Rattle.model.specs.Numbers.{member}
use Rattle.model.specs.Frame.{lent}
use Rattle.model.specs.Sound.{Slot, roots, used, free_pages}
use Rattle.model.specs.Apart.{Strength, table_page}
use Rattle.laws.proofs.Choices.{split}
use Rattle.types.specs.declared.Frame.{Frame}
use Rattle.marks.specs.Marks.{Marks, mark_at}
use Rattle.scan.specs.Admission.{Admitted}
use Rattle.scan.proofs.Laws.{free_member}
use Rattle.sharing.specs.Faults.{table_faults}
use Rattle.sharing.proofs.TableFaults.{no_table_page}
use Rattle.theory.proofs.Memory.{is_lent_lem}
use Rattle.theory.proofs.TablePages.{table_lent}
use Rattle.range.proofs.Lawful.{board_lawful}
use Rattle.table.specs.Board.{PAGE-WORDS, frame_of}

module _ (f : Frame) (m : List ℕ) (slots : List Slot) (marks : Marks) (h : Admitted (frame_of f m) m slots marks) where
  pub table_marked : (k : ℕ) → k < length m / PAGE-WORDS → table_page (frame_of f m) m slots (f.first.0 + k) ≡ not (mark_at marks k)
  unfolding table_page free_pages
  table_marked k u =
      let page : ℕ = f.first.0 + k in
      let here : lent (frame_of f m) page ≡ true = is_lent_lem (frame_of f m) page (omega arith) (omega arith) in
      let place : page - f.first.0 ≡ k = omega arith in
      let mark : mark_at marks k ≡ not (member page (used (frame_of f m) m (roots (frame_of f m) slots)))
      = ap (mark_at marks) (sym place) ∙ h.marked page here ∙ free_member (frame_of f m) (used (frame_of f m) m (roots (frame_of f m) slots)) page here in
      sym (ap not mark ∙ twice (member page (used (frame_of f m) m (roots (frame_of f m) slots))))
    where
      twice : (b : Bool) → not (not b) ≡ b
      twice true = refl
      twice false = refl

  pub not_lent : (s : Strength) (page : ℕ) → (lent (frame_of f m) page ≡ true → ⊥) → table_faults (frame_of f m) m slots s page ≡ []
  not_lent s page out =
      split (table_page (frame_of f m) m slots page)
      (λ t. absurd (out (table_lent (frame_of f m) board_lawful slots m h.ok_frame h.ok_table page t)))
      (λ t. no_table_page (frame_of f m) m slots s page t)
