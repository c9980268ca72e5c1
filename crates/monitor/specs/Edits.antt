-- What an edit asks, and what stands once its slot is known to be open.
use Rattle.std.specs.Prelude.{◌≡◌, true, false, List, ℕ, ◌<◌}
use Rattle.model.specs.Forms.{Request}
use Rattle.model.specs.Frame.{Frame, frame_ok}
use Rattle.model.specs.Sound.{Slot, sound}
use Rattle.marks.specs.Marks.{Marks}
use Rattle.scan.specs.Admission.{MarkedFree}
use Rattle.shapes.specs.Slots.{not_open}

abbrev pub request_from : ℕ → ℕ → ℕ → ℕ → Request
request_from slot start length permission = record { slot = slot; start = start; size = length; permission = permission }

-- refusals 1, 3 and 4 do not fit, the permission is one of the four, and the marks are those of the free pages
pub record InOpenSlot (F : Frame) (m : List ℕ) (slots : List Slot) (q : Request) (marks : Marks) : Type 0 where
  pub ok_frame : frame_ok F m ≡ true
  pub ok_table : sound F m slots ≡ true
  pub ok_slot : not_open slots q.slot ≡ false
  pub small : q.permission < 4
  pub marked : MarkedFree F m slots marks
