-- `marks::lowest` meets its contract: the words passed have no mark, and of the first that has one the lowest is found.
use mathlib.Core.Path.{◌≡◌}
use mathlib.Core.Bool.{false}
use Prim.Native.Nat.{ℕ, ◌*◌, ◌<◌}
use Rattle.marks.specs.Marks.{mark_at}
use Rattle.marks.proofs.lowest.Given as goal

abbrev pub invariant-loop-i : goal.invariant-loop-i
invariant-loop-i l = (k : ℕ) → k < 64 * l.i → mark_at l.marks k ≡ false
