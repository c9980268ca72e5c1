-- `marks::lowest` meets its contract: the words passed have no mark, and of the first that has one the lowest is found.
use mathlib.Core.Path.{◌≡◌, refl}
use mathlib.Core.Bool.{Bool, true, false}
use mathlib.Core.List.{List}
use Prim.Native.Nat.{ℕ, ◌+◌, ◌*◌, ◌≤◌, ◌<◌}
use native.Mathlib.Omega.{arith}
use lib.Dec.{ltb}
use borrow.Author.Tests.{ltb-true, ltb-false}
use Rattle.marks.specs.Marks.{mark_at}
use Rattle.marks.proofs.Laws.{clear_word, lowest_stands, none_below}
use Rattle.marks.proofs.lowest.Goals as goal

-- what was passed before this word, and what of it
passed : (marks : List ℕ) (i : ℕ) → ((k : ℕ) → k < 64 * i → mark_at marks k ≡ false) → (end : ℕ) → ((k : ℕ) → 64 * i ≤ k → k < end → mark_at marks k ≡ false)
    → (k : ℕ) → k < end → mark_at marks k ≡ false
passed marks i before end here k h = go (ltb k (64 * i)) refl
  where
    go : (b : Bool) → ltb k (64 * i) ≡ b → mark_at marks k ≡ false
    go true e = before k (ltb-true _ _ e)
    go false e = here k (ltb-false _ _ e) h

pub returns-then-word-ne0 : goal.returns-then-word-ne0
returns-then-word-ne0 c =
    let m = c.args.marks.now in
    let i = c.loop-i.i in
    let low = c.lowest_bit.ensures in
    let inside : 64 * i + c.lowest_bit.result < 256 = omega (arith, low.within, c.loop-i-test.true) in (
      inside,
      record {
        within = omega (arith, inside);
        is_marked = λ h. lowest_stands m i _ low.within low.is_set;
        below = passed m i c.loop-i.invariant _ (none_below m i _ low.within low.below);
      },
    )

pub loop-i-preserved : goal.loop-i-preserved
loop-i-preserved c =
    let m = c.args.marks.now in
    let i = c.loop-i.i in
    passed m i c.loop-i.invariant _ (λ k lo hi. clear_word m i k c.if-word-ne0.false lo (omega arith))
