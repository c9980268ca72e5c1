-- `apart::reached_table` meets its contract: the invariant: nothing is at fault with the pages passed; before and behind the lent pages there is no table page.
use mathlib.Core.Bool.{Bool}
use mathlib.Core.List.{List}
use Prim.Native.Nat.{ℕ, ◌+◌}
use Rattle.model.specs.Apart.{Strength}
use Rattle.model.specs.Frame as model
use Rattle.model.specs.Sound.{Slot}
use Rattle.sharing.specs.Faults.{some, table_faults}
use Rattle.sharing.proofs.FirstLaws.{NoneOf}
use Rattle.table.specs.Board.{frame_of}
use Rattle.types.specs.Views.{strength_of}
use Rattle.apart.proofs.reached_table.Given as goal

abbrev pub test : model.Frame → List ℕ → List Slot → Strength → ℕ → Bool
test F m slots s page = some (table_faults F m slots s page)

abbrev pub invariant-loop-k : goal.invariant-loop-k
invariant-loop-k l = NoneOf (test (frame_of l.f l.words) l.words l.slots (strength_of l.s)) 0 (l.first + l.k)
