-- Refusals 1 and 3, by what the two passes leave, and once for every call: whatever tests come after, a call that is not admitted is refused with
-- the number that `admit` answers.
use Rattle.std.specs.Prelude.{Option, if◌then◌else◌, Some, None}
use mathlib.Core.Path.{◌≡◌, refl, sym, ap, ◌∙◌, subst}
use mathlib.Core.Bool.{Bool, true, false, not}
use mathlib.Core.List.{List, ◌∷◌}
use Prim.Native.Nat.{ℕ, ◌≤◌}
use native.Mathlib.Omega.{arith}
use lib.Dec.{eqb}
use borrow.Author.Tests.{ne_eqb}
use Rattle.model.specs.Frame.{Frame, frame_ok}
use Rattle.model.specs.Sound.{Slot, sound_slots, sound}
use Rattle.model.specs.Calls.{Outcome, first_met, refuse}
use Rattle.laws.proofs.Choices.{and_both}
use Rattle.laws.proofs.FrameNumbers.{framed, bounds}
use Rattle.types.specs.declared.Refusal.{Refusal}
use Rattle.types.specs.declared.Refusal.TheVariants as refusal
use Rattle.types.specs.Views.{refusal_number}
use Rattle.marks.specs.Marks.{Marks, all_marks}
use Rattle.scan.specs.Admission.{admission_of, MarkedFree, Admitted}
use Rattle.scan.specs.Scan.{unsound, marked, scan_all, register_step, slot_step}
use Rattle.scan.proofs.Laws.{marked_exactly_when_free}
use Rattle.scan.proofs.Pass.{registers_said, tables_said}

-- ---- what the passes say, one after the other

module _ (F : Frame) (m : List ℕ) (slots : List Slot) (most : F.layout.max_pages ≤ 256) where
  pub frame_fails : false ≡ frame_ok F m → admission_of F m slots ≡ Some refusal.Frame
  unfolding admission_of
  frame_fails one = rw (sym one) refl

  module _ (one : true ≡ frame_ok F m) {sdids : Marks} (fresh : sdids ≡ all_marks) where
    pub registers_fail : unsound ≡ scan_all (register_step F.layout) sdids slots → admission_of F m slots ≡ Some refusal.NotSound
    unfolding admission_of sound
    registers_fail said = rw (sym one, sym (registers_said F m slots false sdids fresh said)) refl

    module _ {used : Marks} (registers : marked used ≡ scan_all (register_step F.layout) sdids slots) {free : Marks} (all : free ≡ all_marks) where
      passed : true ≡ sound_slots F slots
      passed = registers_said F m slots true used fresh registers

      pub tables_fail : unsound ≡ scan_all (slot_step F m) free slots → admission_of F m slots ≡ Some refusal.NotSound
      unfolding admission_of sound
      tables_fail said = rw (sym one, sym passed, sym (tables_said F m (framed F m (sym one)).0 most slots false free all said).0) refl

      pub both_pass : {left : Marks} → marked left ≡ scan_all (slot_step F m) free slots → (admission_of F m slots ≡ None) × MarkedFree F m slots left
      unfolding admission_of sound
      both_pass {left} said =
          let ok = (framed F m (sym one)).0 in
          let t = tables_said F m ok most slots true left all said in
          let whole : sound F m slots ≡ true = and_both (sym passed) (sym t.0) in
          (rw (sym one, whole) refl, subst (MarkedFree F m slots) (sym (t.1 refl)) (marked_exactly_when_free F m slots whole (omega (arith, (bounds F ok).most, most))))

-- ---- and what each call makes of it

-- the number of the refusal that fits: 0 where none does
abbrev pub number_of : Option Refusal → ℕ
number_of None = 0
number_of (Some r) = refusal_number r

-- no refusal has the number 0
some_number : (r : Refusal) → refusal_number r ≡ 0 → ⊥
some_number refusal.Frame e = omega (arith, e)
some_number refusal.Register e = omega (arith, e)
some_number refusal.NotSound e = omega (arith, e)
some_number refusal.Slot e = omega (arith, e)
some_number refusal.Range e = omega (arith, e)
some_number refusal.LentPages e = omega (arith, e)
some_number refusal.NoRoom e = omega (arith, e)
some_number refusal.Sdid e = omega (arith, e)
some_number refusal.WriteExecute e = omega (arith, e)

abbrev chosen : Bool → Bool → Option Refusal
chosen a b = if a then (if b then None else Some refusal.NotSound) else Some refusal.Frame

first_two : (a b : Bool) (rest : List (ℕ × Bool)) (r : Refusal) → chosen a b ≡ Some r → first_met ((1, not a) ∷ (3, not b) ∷ rest) ≡ refusal_number r
unfolding first_met
first_two true true rest r h = absurd (some_number r (sym (ap number_of h)))
first_two true false rest r h = ap number_of h
first_two false b rest r h = ap number_of h

both_passed : (a b : Bool) → chosen a b ≡ None → (a ≡ true) × (b ≡ true)
both_passed true true h = (refl, refl)
both_passed true false h = absurd (some_number refusal.NotSound (ap number_of h))
both_passed false b h = absurd (some_number refusal.Frame (ap number_of h))

-- a call whose tests begin with these two, whatever a refusal leaves
pub refused_whatever : {A : Type 0} (F : Frame) (m : List ℕ) (slots : List Slot) (r : Refusal) (rest : List (ℕ × Bool)) (done : A) (refused : ℕ → A) (n : ℕ)
    → admission_of F m slots ≡ Some r → n ≡ first_met ((1, not (frame_ok F m)) ∷ (3, not (sound F m slots)) ∷ rest)
    → (if eqb n 0 then done else refused n) ≡ refused (refusal_number r)
unfolding admission_of
refused_whatever F m slots r rest done refused n h e =
    let z : n ≡ refusal_number r = e ∙ first_two (frame_ok F m) (sound F m slots) rest r h in
    ap (λ (k : ℕ). if eqb k 0 then done else refused k) z ∙ ap (λ (b : Bool). if b then done else refused (refusal_number r)) (ne_eqb _ _ (some_number r))

pub not_admitted : (F : Frame) (m : List ℕ) (slots : List Slot) (r : Refusal) (rest : List (ℕ × Bool)) (done : Outcome) (n : ℕ)
    → admission_of F m slots ≡ Some r → n ≡ first_met ((1, not (frame_ok F m)) ∷ (3, not (sound F m slots)) ∷ rest)
    → (if eqb n 0 then done else refuse F m slots n) ≡ refuse F m slots (refusal_number r)
not_admitted F m slots r rest done n h e = refused_whatever F m slots r rest done (refuse F m slots) n h e

-- and one that passes them
pub admitted : (F : Frame) (m : List ℕ) (slots : List Slot) (marks : Marks) → (admission_of F m slots ≡ None) × MarkedFree F m slots marks → Admitted F m slots marks
unfolding admission_of
admitted F m slots marks h =
    let passed = both_passed (frame_ok F m) (sound F m slots) h.0 in
    record { ok_frame = passed.0; ok_table = passed.1; marked = h.1 }

-- the number of the refusal that fits is that of the first test that does not pass
pub admission_number : (F : Frame) (m : List ℕ) (slots : List Slot) → number_of (admission_of F m slots) ≡ (if frame_ok F m then (if sound F m slots then 0 else 3) else 1)
unfolding admission_of
admission_number F m slots = go (frame_ok F m) (sound F m slots)
  where
    go : (a b : Bool) → number_of (chosen a b) ≡ (if a then (if b then 0 else 3) else 1)
    go true true = refl
    go true false = refl
    go false b = refl
