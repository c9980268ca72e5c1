-- What each call but a lookup asks first, and what stands once neither refusal fits.
use Rattle.std.specs.Prelude.{◌≡◌, true, List, ℕ, ◌-◌, Option, Result, if◌then◌else◌, Some, None, Ok, Err}
use Rattle.model.specs.Numbers.{member}
use Rattle.model.specs.Frame.{Frame, frame_ok, lent}
use Rattle.model.specs.Sound.{Slot, roots, sound, free_pages}
use Rattle.types.specs.declared.Refusal.{Refusal}
use Rattle.types.specs.declared.Refusal.TheVariants as refusal
use Rattle.marks.specs.Marks.{Marks, mark_at}

module _ (F : Frame) (m : List ℕ) (slots : List Slot) where
  -- the refusal that fits, if one does. 1: "frame breaks its bounds"; 3: "table not sound"
  unfoldable pub admission_of : Option Refusal
  admission_of = if frame_ok F m then (if sound F m slots then None else Some refusal.NotSound) else Some refusal.Frame

  -- document 02, item 4: "each lent page of a sound table is marked exactly when it is free". (That the table is sound is said where this is used.)
  abbrev pub MarkedFree : Marks → Type 0
  MarkedFree marks = (page : ℕ) → lent F page ≡ true → mark_at marks (page - F.first) ≡ member page (free_pages F m (roots F slots))

  -- what is answered: the refusal that fits, or none, and then the marks are those of the free pages
  abbrev pub AdmissionIs : {A : Type 0} → Result A Refusal → Marks → Type 0
  AdmissionIs (Ok done) marks = (admission_of ≡ None) × MarkedFree marks
  AdmissionIs (Err why) marks = admission_of ≡ Some why

  -- neither refusal fits, and the marks are those of the free pages
  pub record Admitted (marks : Marks) : Type 0 where
    pub ok_frame : frame_ok F m ≡ true
    pub ok_table : sound F m slots ≡ true
    pub marked : MarkedFree marks
