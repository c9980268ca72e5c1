-- `lookup::judge` meets its contract: the row of the permission that the walk grants decides, and the row of none serves no need.
use Rattle.std.specs.Prelude.{if◌then◌else◌}
use mathlib.Core.Path.{◌≡◌, refl, sym, ap, ap₂, ◌∙◌}
use mathlib.Core.Bool.{false}
use Prim.Native.Nat.{ℕ}
use Rattle.model.specs.Entry.{Found, perm, faults}
use Rattle.model.specs.Access.{Kind, Need, read, write, execute, allowed, fault, need_of, original_of, cause_of, may_rows, column_of, may, judge}
use Rattle.types.specs.Views as views
use Rattle.lookup.specs.Granted.{granted_of}
use Rattle.lookup.proofs.judge.Goals as goal
use Rattle.lookup.proofs.judge.Goals.{After-may}

none_serves_nothing : (n : Need) → may 0 n ≡ false
unfolding may may_rows column_of
none_serves_nothing read = refl
none_serves_nothing write = refl
none_serves_nothing execute = refl

judged : (f : Found) (k : Kind) → judge f k ≡ (if may (granted_of f) (need_of k) then allowed else fault (cause_of (original_of k)))
unfolding judge
judged (perm p) k = refl
judged faults k = rw none_serves_nothing

-- what was asked of the rows
asked : (c : After-may) (k : Kind) → let a = c.args in views.need_view a.need ≡ need_of k → may (granted_of (views.found_of a.found)) (need_of k) ≡ c.may.result
asked c k n = ap₂ (λ (p : ℕ) (need : Need). may p need) (sym c.granted.ensures) (sym n) ∙ sym c.may.ensures

pub returns-then-may : goal.returns-then-may
returns-then-may c = λ k n e. rw (judged, asked (goal.at.returns-then-may c).After-may k n ∙ c.if-may.true)

pub returns : goal.returns
returns c = λ k n e. rw (judged, asked (goal.at.returns c).After-may k n ∙ c.if-may.false) (ap (λ (cause : ℕ). fault cause) e)
