-- `entries::put::put` meets its contract: no store is left, or the next one is made.
use mathlib.Core.Path.{sym}
use Rattle.shapes.proofs.RunLaws.{run_cut}
use Rattle.entries.proofs.put.put.Goals as goal

-- Where one more store may be made, what `put_next` asks is what is asked here.
-- Where none may be made, the list is cut before its first store.
pub returns-then-left-eq0 : goal.returns-then-left-eq0
returns-then-left-eq0 c = sym (run_cut _ _ _ _ c.if-left-eq0.true)
