-- `apart::who::reached_by` meets its contract: the invariant: no slot passed reaches the page.
use mathlib.Core.Bool.{Bool}
use mathlib.Core.List.{List}
use Prim.Native.Nat.{ℕ}
use Rattle.model.specs.Apart.{Strength, reaches, by_slot}
use Rattle.model.specs.Frame.{Frame}
use Rattle.model.specs.Sound.{Slot}
use Rattle.sharing.proofs.FirstLaws.{NoneOf}
use Rattle.table.specs.Board.{frame_of}
use Rattle.types.specs.Views.{strength_of}
use Rattle.apart.proofs.who.reached_by.Given as goal

abbrev pub test : Frame → List ℕ → List Slot → Strength → ℕ → ℕ → Bool
test F m slots s page i = by_slot F m slots (reaches F m s) i page

abbrev pub invariant-loop-i : goal.invariant-loop-i
invariant-loop-i l = NoneOf (test (frame_of l.f l.words) l.words l.fn.slots (strength_of l.s) l.page.0) 0 l.i
