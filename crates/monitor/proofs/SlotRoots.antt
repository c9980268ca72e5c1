-- The root of an open slot of a sound table: it is `Rooted`.
use mathlib.Core.Path.{◌≡◌}
use mathlib.Core.Bool.{true, false, not}
use mathlib.Core.List.{List}
use Prim.Native.Nat.{ℕ}
use lib.Dec.{ltb}
use Rattle.model.specs.Layout.{slot_count}
use Rattle.model.specs.Register.{ppn_of}
use Rattle.model.specs.Frame.{frame_ok}
use Rattle.model.specs.Sound.{Slot, register, is_open, sound}
use Rattle.model.specs.Calls.{slot_at}
use Rattle.laws.proofs.Choices.{or_false, not-false-true}
use Rattle.types.specs.declared.Frame.{Frame}
use Rattle.shapes.specs.Rooted.{Rooted}
use Rattle.sharing.proofs.CrowdLaws.{all_rooted}
use Rattle.shapes.specs.Slots.{not_open}
use Rattle.table.specs.Board.{frame_of}
use Rattle.range.proofs.Lawful.{board_lawful}

pub rooted_slot : (f : Frame) (m : List ℕ) (slots : List Slot) (s : ℕ) → frame_ok (frame_of f m) m ≡ true → sound (frame_of f m) m slots ≡ true → not_open slots s ≡ false
    → Rooted (frame_of f m) m (ppn_of (frame_of f m).layout (register (slot_at slots s)))
rooted_slot f m slots s one three four =
    all_rooted (frame_of f m) m slots board_lawful one three s (not-false-true _ (or_false (not (ltb s slot_count)) (not (is_open (slot_at slots s))) four).1)
