-- `lookup::walk` meets its contract: a page below 2^(PAW-12) lies in one of the blocks that there can be.
use native.Mathlib.Omega.{arith}
use borrow.Author.Tests.{lt-ltb, le-ltb}
use Rattle.model.specs.Walk.{walk, pn2}
use Rattle.lookup.proofs.walk.Goals as goal

pub l2_entry-requires : goal.l2_entry-requires
unfolding pn2
l2_entry-requires c = omega (arith, c.pn2.ensures)

pub returns-then-number-page_count : goal.returns-then-number-page_count
unfolding walk
returns-then-number-page_count c = rw (← c.page_count.ensures.0, lt-ltb _ _ c.if-number-page_count.true, ← c.pn2.ensures, ← c.l2_entry.ensures.0) c.found.ensures

pub returns : goal.returns
unfolding walk
returns c = rw (← c.page_count.ensures.0, le-ltb _ _ c.if-number-page_count.false)
