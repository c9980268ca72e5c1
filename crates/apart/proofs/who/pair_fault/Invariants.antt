-- `apart::who::pair_fault` meets its contract: the invariant: no slot passed is the lower of two that share the page so.
use mathlib.Core.Bool.{Bool}
use mathlib.Core.List.{List}
use Prim.Native.Nat.{ℕ}
use Rattle.model.specs.Apart.{Strength}
use Rattle.model.specs.Frame.{Frame}
use Rattle.model.specs.Sound.{Slot}
use Rattle.sharing.specs.Faults.{some}
use Rattle.sharing.proofs.PairFaults.{row}
use Rattle.sharing.proofs.FirstLaws.{NoneOf}
use Rattle.table.specs.Board.{frame_of}
use Rattle.types.specs.Views.{strength_of}
use Rattle.apart.proofs.who.pair_fault.Given as goal

abbrev pub test : Frame → List ℕ → List Slot → Strength → ℕ → ℕ → Bool
test F m slots s page i = some (row F m slots s page i)

abbrev pub invariant-loop-i : goal.invariant-loop-i
invariant-loop-i l = NoneOf (test (frame_of l.f l.words) l.words l.slots (strength_of l.s) l.page.0) 0 l.i
