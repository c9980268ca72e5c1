-- `entries::rows::all_differ` meets its contract: after i steps of the loop the answer is that of the first i words.
use mathlib.Core.Path.{◌≡◌}
use Rattle.model.specs.Numbers.{every}
use Rattle.shapes.specs.Rows.{differs}
use Rattle.entries.proofs.rows.all_differ.Given as goal

abbrev pub invariant-loop-old : goal.invariant-loop-old
invariant-loop-old l = l.differ ≡ every (differs l.words l.word) l.old-index l.at
