-- `types::pages::meets` meets its contract: the later of the run's first page and the range's lies in both.
use mathlib.Core.Path.{sym, ◌∙◌}
use mathlib.Core.Bool.{true≢false}
use Prim.Native.Nat.{ℕ, ◌/◌}
use native.Mathlib.Omega.{arith}
use lib.Dec.{leb}
use borrow.Author.Tests.{leb-true, leb-false}
use Rattle.laws.proofs.InRange.{in_true}
use Rattle.types.specs.Views.{request_of}
use Rattle.laws.proofs.Choices.{split}
use Rattle.types.proofs.pages.meets.Goals as goal

pub returns : goal.returns
returns c =
    λ out.
    let a = c.args in
    let fair = c.requires.2 in
    let first : ℕ = a.q.start.0 / 4096 in
    split (leb first a.s)
    (λ z. let h = leb-true first a.s z in true≢false (sym (in_true (request_of a.q) a.s (omega (arith, fair.starts)) (omega arith)) ∙ out a.s (omega arith) (omega arith)))
    (λ z. let h = leb-false first a.s z in
    true≢false (sym (in_true (request_of a.q) first (omega (arith, fair.starts)) (omega (arith, fair.some, fair.starts))) ∙ out first (omega arith) (omega (arith, fair.starts))))
