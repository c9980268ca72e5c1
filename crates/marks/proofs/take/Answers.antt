-- `marks::take` meets its contract: bit i % 64 of word i / 64, and where it is set the word without its power.
use mathlib.Core.Path.{◌≡◌, refl, sym, ap, ◌∙◌}
use Prim.Native.Nat.{ℕ, ◌-◌, ◌/◌, ◌%◌}
use native.Mathlib.Nat.{mod-lt}
use native.Mathlib.Omega.{arith}
use lib.Dec.{eqb, lit<}
use lib.ListN.{get_or, set}
use Rattle.model.specs.Numbers.{digit}
use Rattle.marks.specs.Marks.{mark_at, unmark}
use Rattle.marks.proofs.take.Goals as goal
use Rattle.marks.proofs.take.Goals.{After-word-1, Else-word-bit-eq0}

-- the bit that is tested, as the definition has it
bit_is : (c : After-word-1) → let a = c.args in let w = get_or a.marks.now (a.i / 64) 0 in
    w / c.pow2-bit.result % 2 ≡ digit 2 w (a.i % 64)
unfolding digit
bit_is c = let a = c.args in ap (λ (p : ℕ). get_or a.marks.now (a.i / 64) 0 / p % 2) c.pow2-bit.ensures

stands : (c : Else-word-bit-eq0) → let a = c.args in digit 2 (get_or a.marks.now (a.i / 64) 0) (a.i % 64) ≡ 1
stands c =
    let a = c.args in
    let odd : get_or a.marks.now (a.i / 64) 0 / c.pow2-bit.result % 2 ≡ 1 = omega (arith, c.if-word-bit-eq0.false, mod-lt (get_or a.marks.now (a.i / 64) 0 / c.pow2-bit.result) (lit< {m = 0} {n = 2} tt)) in
    sym (bit_is (goal.at.returns c).After-word-1) ∙ odd

pub returns-then-word-bit-eq0 : goal.returns-then-word-bit-eq0
unfolding mark_at unmark
returns-then-word-bit-eq0 c =
    let clear = ap (λ (x : ℕ). eqb x 1) (sym (bit_is (goal.at.returns-then-word-bit-eq0 c).After-word-1) ∙ c.if-word-bit-eq0.true) in
    rw clear (refl, refl)

pub returns : goal.returns
unfolding mark_at unmark
returns c =
    let a = c.args in
    let set-bit = ap (λ (x : ℕ). eqb x 1) (stands c) in
    rw set-bit (refl, ap (λ (p : ℕ). set a.marks.now (a.i / 64) (get_or a.marks.now (a.i / 64) 0 - p)) c.pow2-bit.ensures)
