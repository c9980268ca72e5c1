-- `slots::zero::zero_page` meets its contract: the invariant: zeroing the words that are left gives the zeroed page.
use mathlib.Core.Path.{refl, sym, ap, ◌∙◌}
use mathlib.Core.List.{List}
use Prim.Native.Nat.{ℕ, ◌+◌, ◌≤◌, ◌<◌}
use native.Mathlib.Omega.{arith}
use lib.ListN.{length, length-set}
use Rattle.slots.proofs.ZeroLoop.{left, left_all, left_next, left_none}
use Rattle.table.specs.Board.{PAGE-WORDS}
use Rattle.slots.proofs.zero.zero_page.Goals as goal

pub loop-i-init : goal.loop-i-init
loop-i-init c = (omega arith, omega arith, refl, left_all _ _)

pub loop-i-preserved : goal.loop-i-preserved
loop-i-preserved c = let a = c.args in
    let e = c.store_word.ensures in
    let h : c.loop-i.i < PAGE-WORDS = omega arith in
    let n = ap length e ∙ length-set c.loop-i.words (a.at + c.loop-i.i) 0 in (
      omega arith,
      omega (arith, n),
      omega (arith, n),
      c.loop-i.invariant.3
          ∙ left_next c.loop-i.words a.at c.loop-i.i h
          ∙ ap (λ (w : List ℕ). left w a.at (c.loop-i.i + 1)) (sym e),
    )

pub returns : goal.returns
returns c = let h : PAGE-WORDS ≤ c.loop-i.i = omega arith in
    sym (c.loop-i.invariant.3 ∙ left_none _ _ _ h)
