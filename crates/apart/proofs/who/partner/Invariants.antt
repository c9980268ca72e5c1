-- `apart::who::partner` meets its contract: the invariant: no slot passed shares the page so.
use mathlib.Core.Bool.{Bool}
use mathlib.Core.List.{List}
use Prim.Native.Nat.{ℕ, ◌<◌}
use Rattle.model.specs.Apart.{Strength, pair_fault}
use Rattle.model.specs.Frame.{Frame}
use Rattle.model.specs.Sound.{Slot}
use Rattle.sharing.specs.Faults.{some}
use Rattle.sharing.proofs.FirstLaws.{NoneOf}
use Rattle.table.specs.Board.{frame_of}
use Rattle.types.specs.Views.{strength_of}
use Rattle.apart.proofs.who.partner.Given as goal

abbrev pub test : Frame → List ℕ → List Slot → Strength → ℕ → ℕ → ℕ → Bool
test F m slots s page i j = some (pair_fault F m slots s page i j)

abbrev pub invariant-loop-j : goal.invariant-loop-j
invariant-loop-j l = (l.i < l.j) × NoneOf (test (frame_of l.f l.words) l.words l.slots (strength_of l.s) l.page.0 l.i) 0 l.j
