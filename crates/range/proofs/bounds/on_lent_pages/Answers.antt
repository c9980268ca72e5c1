-- `range::bounds::on_lent_pages` meets its contract: tests in the definition's order; no sum wraps, since lent pages and range end within the address space.
use native.Mathlib.Omega.{arith}
use lib.Dec.{lit≤}
use borrow.Author.Tests.{ne_eqb, lt-ltb, le-ltb}
use Rattle.model.specs.Calls.{meets_lent}
use Rattle.table.specs.Board.{frame_over}
use Rattle.types.specs.Views.{request_of}
use Rattle.range.proofs.RangeEnds.{range_ends, lent_ends}
use Rattle.range.proofs.bounds.on_lent_pages.Goals as goal

pub overflow_add-first : goal.overflow_add-first
overflow_add-first c = record { fits = omega (arith, lent_ends (frame_over c.args.f c.args.n) (lit≤ tt) c.requires.0) }

pub overflow_mul-first : goal.overflow_mul-first
overflow_mul-first c = record { fits = omega (arith, lent_ends (frame_over c.args.f c.args.n) (lit≤ tt) c.requires.0) }

pub returns-then-first-pages : goal.returns-then-first-pages
unfolding meets_lent
returns-then-first-pages c = rw (ne_eqb _ 0 c.if-q-eq0.false, le-ltb _ _ c.if-first-pages.true)

pub overflow_mul-result : goal.overflow_mul-result
overflow_mul-result c = record { fits = omega (arith, lent_ends (frame_over c.args.f c.args.n) (lit≤ tt) c.requires.0) }

pub overflow_add-result : goal.overflow_add-result
overflow_add-result c =
    record { fits = omega (arith, range_ends (frame_over c.args.f c.args.n) (request_of c.args.q) (lit≤ tt) c.requires.0 c.requires.1) }

pub returns : goal.returns
unfolding meets_lent
returns c = rw (ne_eqb _ 0 c.if-q-eq0.false, lt-ltb _ _ c.if-first-pages.false)
