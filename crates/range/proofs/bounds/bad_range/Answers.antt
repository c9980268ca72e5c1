-- `range::bounds::bad_range` meets its contract: the tests in the definition's order, and the sum without its wrap.
use mathlib.Core.Path.{sym}
use Prim.Native.Nat.{◌+◌}
use native.Mathlib.Omega.{arith}
use borrow.Author.Tests.{eq-eqb, ne_eqb, lt-ltb}
use Rattle.model.specs.Calls.{bad_range}
use Rattle.laws.proofs.FrameNumbers.{bounds}
use Rattle.range.proofs.RangeEnds.{no_wrap}
use Rattle.range.proofs.bounds.bad_range.Goals as goal

pub returns-then-size-eq0 : goal.returns-then-size-eq0
unfolding bad_range
returns-then-size-eq0 c = rw (eq-eqb _ _ c.if-size-eq0.true)

pub returns-then-start-ne0 : goal.returns-then-start-ne0
unfolding bad_range
returns-then-start-ne0 c = rw (ne_eqb _ _ c.if-size-eq0.false, ne_eqb _ _ c.if-start-ne0.true)

pub returns-then-size-ne0 : goal.returns-then-size-ne0
unfolding bad_range
returns-then-size-ne0 c = rw (ne_eqb _ _ c.if-size-eq0.false, eq-eqb _ _ c.if-start-ne0.false, ne_eqb _ _ c.if-size-ne0.true)

pub pow2-end-requires : goal.pow2-end-requires
pow2-end-requires c = let b = bounds _ c.requires in omega (arith, b.paw_high_lem)

pub returns-then-end-start : goal.returns-then-end-start
unfolding bad_range
returns-then-end-start c =
    let a = c.args in
    rw (
      ne_eqb _ _ c.if-size-eq0.false,
      eq-eqb _ _ c.if-start-ne0.false,
      eq-eqb _ _ c.if-size-ne0.false,
      sym c.pow2-end.ensures,
      lt-ltb c.pow2-end.result (a.q.start.0 + a.q.size) (omega (arith, c.if-end-start.true)),
    )

pub returns : goal.returns
unfolding bad_range
returns c =
    let a = c.args in
    rw (
      ne_eqb _ _ c.if-size-eq0.false,
      eq-eqb _ _ c.if-start-ne0.false,
      eq-eqb _ _ c.if-size-ne0.false,
      sym c.pow2-end.ensures,
    )
    (no_wrap c.pow2-end.result a.q.start.0 a.q.size c.if-end-start.false)
