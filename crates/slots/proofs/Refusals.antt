-- What opening and closing leave, by the tests in their order: each law assumes that the tests before it were passed.
use Rattle.std.specs.Prelude.{Some, None, Ok}
use mathlib.Core.Path.{◌≡◌, refl, sym, ap, ◌∙◌}
use mathlib.Core.Bool.{true, false}
use mathlib.Core.List.{List, [], ◌∷◌, head_d}
use Prim.Native.Nat.{ℕ}
use native.Mathlib.Omega.{arith}
use lib.Dec.{eqb}
use lib.ListN.{length, set}
use borrow.Author.Tests.{ne_eqb}
use Rattle.std.proofs.lemmas.Option.{none-some, same_Some}
use Rattle.model.specs.Register.{register_of}
use Rattle.model.specs.Frame.{frame_ok, lent, index_of}
use Rattle.model.specs.Frame as frame
use Rattle.model.specs.Sound.{Slot, roots, used, sdids, sound, free_pages}
use Rattle.model.specs.Fence.{no_fence}
use Rattle.model.specs.Calls.{opened, first_met, slot_at, refuse, open_refusal, open_at, open_slot, close_refusal, close_slot}
use Rattle.types.specs.declared.Frame.{Frame}
use Rattle.types.specs.declared.Free.{Free}
use Rattle.types.specs.declared.PageNumber.{PageNumber}
use Rattle.types.specs.declared.Refusal.{Refusal}
use Rattle.types.specs.declared.Refusal.TheVariants as refusal
use Rattle.marks.specs.Marks.{Marks}
use Rattle.scan.specs.Admission.{admission_of, MarkedFree, Admitted}
use Rattle.scan.specs.FreeMarks.{marked_pages, listed}
use Rattle.scan.proofs.Admissions.{not_admitted, admitted}
use Rattle.scan.proofs.Laws.{free_lent, head_lent, marked_are_free}
use Rattle.shapes.specs.Slots.{not_open, not_empty, bad_sdid}
use Rattle.slots.specs.Outcomes.{outcome_of, refused_outcome, closed_at}
use Rattle.slots.specs.ZeroPage.{zeroed}
use Rattle.table.specs.Board.{board, frame_of}

-- the first of some pages: there is none, or it heads them
first_is : (page : ℕ) (rest : List ℕ) → (listed (page ∷ rest)).first ≡ Some (record { 0 = page })
first_is page [] = refl
first_is page (next ∷ more) = refl

none_first : (pages : List ℕ) → (listed pages).first ≡ None → eqb (length pages) 0 ≡ true
none_first [] h = refl
none_first (page ∷ rest) h = absurd (none-some _ (sym h ∙ first_is page rest))

some_first : (pages : List ℕ) (root : PageNumber) → (listed pages).first ≡ Some root → (eqb (length pages) 0 ≡ false) × (head_d pages 0 ≡ root.0)
unfolding head_d
some_first [] root h = absurd (none-some root h)
some_first (page ∷ rest) root h =
    (ne_eqb (length (page ∷ rest)) 0 (λ e. omega (arith, e)), ap (λ (p : PageNumber). p.0) (same_Some (record { 0 = page }) root (sym (first_is page rest) ∙ h)))

module _ (f : Frame) (m : List ℕ) (slots : List Slot) (s : ℕ) where
  abbrev F : frame.Frame
  F = frame_of f m

  abbrev pages : List ℕ
  pages = free_pages F m (roots F slots)

  -- ---- open

  module _ (sdid : ℕ) where
    pub opened_at : (root : ℕ)
        → open_at F m slots root s sdid
        ≡ record { reply = opened; memory = zeroed m (index_of F root 0); slots = set slots s (register_of board sdid root); fence = no_fence }
    unfolding open_at zeroed
    opened_at root = refl

    pub open_not_admitted : (r : Refusal) → admission_of F m slots ≡ Some r → outcome_of (refused_outcome r slots) m ≡ open_slot F m slots s sdid
    unfolding open_slot open_refusal refuse
    open_not_admitted r h = sym (not_admitted F m slots r _ _ _ h refl)

    module _ (one : frame_ok F m ≡ true) (three : sound F m slots ≡ true) where
      pub open_slot_lem : true ≡ not_empty slots s → outcome_of (refused_outcome refusal.Slot slots) m ≡ open_slot F m slots s sdid
      unfolding open_slot open_refusal first_met refuse
      open_slot_lem h = rw (one, three, sym h)

      pub open_sdid : false ≡ not_empty slots s → true ≡ bad_sdid board slots sdid → outcome_of (refused_outcome refusal.Sdid slots) m ≡ open_slot F m slots s sdid
      unfolding open_slot open_refusal first_met refuse sdids
      open_sdid four h = rw (one, three, sym four, sym h)

    module _ (marks : Marks) (admission : (admission_of F m slots ≡ None) × MarkedFree F m slots marks) where
      ok : Admitted F m slots marks
      ok = admitted F m slots marks admission

      module _ (four : false ≡ not_empty slots s) where
        -- the free pages are picked from the marks
        module _ (eight : false ≡ bad_sdid board slots sdid) {free : Free} (picked : free ≡ listed (marked_pages F marks)) where
          picked_first : free.first ≡ (listed pages).first
          picked_first = ap (λ (x : Free). x.first) (picked ∙ ap listed (marked_are_free F m slots marks ok.marked))

          pub open_no_room : free.first ≡ None → outcome_of (refused_outcome refusal.NoRoom slots) m ≡ open_slot F m slots s sdid
          unfolding open_slot open_refusal first_met refuse sdids
          open_no_room h = rw (ok.ok_frame, ok.ok_table, sym four, sym eight, none_first pages (sym picked_first ∙ h))

          module _ {root : PageNumber} (h : free.first ≡ Some root) where
            heads : (eqb (length pages) 0 ≡ false) × (head_d pages 0 ≡ root.0)
            heads = some_first pages root (sym picked_first ∙ h)

            pub root_lent : lent F root.0 ≡ true
            unfolding free_pages
            root_lent = ap (lent F) (sym heads.1) ∙ head_lent F pages heads.0 (free_lent F (used F m (roots F slots)))

            pub open_done : open_at F m slots root.0 s sdid ≡ open_slot F m slots s sdid
            unfolding open_slot open_refusal first_met sdids
            open_done = rw (ok.ok_frame, ok.ok_table, sym four, sym eight, heads.0) (ap (λ (page : ℕ). open_at F m slots page s sdid) (sym heads.1))

  -- ---- close

  pub close_not_admitted : (r : Refusal) → admission_of F m slots ≡ Some r → outcome_of (refused_outcome r slots) m ≡ close_slot F m slots s
  unfolding close_slot close_refusal refuse
  close_not_admitted r h = sym (not_admitted F m slots r _ _ _ h refl)

  module _ (one : frame_ok F m ≡ true) (three : sound F m slots ≡ true) where
    pub close_slot_lem : true ≡ not_open slots s → outcome_of (refused_outcome refusal.Slot slots) m ≡ close_slot F m slots s
    unfolding close_slot close_refusal first_met refuse
    close_slot_lem h = rw (one, three, sym h)

    pub close_done : false ≡ not_open slots s → outcome_of (closed_at slots s) m ≡ close_slot F m slots s
    unfolding close_slot close_refusal first_met slot_at
    close_done h = rw (one, three, sym h)
