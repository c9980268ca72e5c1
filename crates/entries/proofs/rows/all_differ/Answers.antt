-- `entries::rows::all_differ` meets its contract: after i steps of the loop the answer is that of the first i words.
use mathlib.Core.Path.{refl, sym, ap₂, ◌∙◌}
use mathlib.Core.Bool.{Bool, not, ◌&&◌}
use Prim.Native.Nat.{ℕ}
use native.Mathlib.Omega.{arith}
use lib.Dec.{eqb}
use lib.ListN.{drop}
use Rattle.std.proofs.lemmas.List.{get_or-take, get_or-drop}
use Rattle.model.specs.Numbers.{every}
use Rattle.laws.proofs.Every.{every_next_last}
use Rattle.shapes.specs.Rows.{differs}
use Rattle.entries.proofs.rows.all_differ.Goals as goal

pub loop-old-init : goal.loop-old-init
unfolding every
loop-old-init c = refl

pub loop-old-preserved : goal.loop-old-preserved
loop-old-preserved c =
    let a = c.args in
    let m = a.words.now in
    let i = c.loop-old.old-index in
    ap₂ (λ (b : Bool) (x : ℕ). b && not (eqb x a.word)) c.loop-old.invariant (get_or-take _ (drop a.at m) i 0 (omega arith) ∙ get_or-drop a.at m i 0)
    ∙ sym (every_next_last (differs m a.word) i a.at)
