-- `apart::crowd::in_tables` meets its contract: the invariant: no page of the pieces passed is crowded.
use mathlib.Core.Path.{◌≡◌, ap, ◌∙◌}
use Prim.Native.Nat.{ℕ, ◌+◌, ◌*◌, ◌/◌, ◌<◌}
use native.Mathlib.Omega.{arith}
use lib.ListN.{length}
use Rattle.model.specs.Layout.{block_pages}
use Rattle.sharing.specs.Crowds.{full_at}
use Rattle.sharing.specs.First.{FirstOf}
use Rattle.sharing.specs.Masks.{Counted}
use Rattle.sharing.proofs.FirstLaws.{none_at_all, none_next, found_after, found_same}
use Rattle.table.specs.Board.{board, FIELDS, PIECES, PIECE-WORDS, PIECE-PAGES}
use Rattle.types.specs.Views.{strength_of}
use Rattle.apart.proofs.crowd.in_tables.Invariants.{test}
use Rattle.apart.proofs.crowd.in_tables.Goals as goal
use Rattle.apart.proofs.crowd.in_tables.Goals.{After-in_piece}

-- the piece that is looked at
here : (c : After-in_piece) → let a = c.args in
    (opened reached : ℕ → ℕ) → ((j : ℕ) → j < PIECES → Counted a.even (2 * j) (opened j) (reached j))
    → FirstOf (test a.words.now a.tables.now (strength_of a.s) (length a.tables.now) opened reached) (0 + c.loop-i.i * PIECE-PAGES) PIECE-PAGES c.in_piece.result
here c opened reached h =
    let a = c.args in
    let i : ℕ = c.loop-i.i in
    let low : i < PIECES = c.loop-i-test.true in
    let full = full_at board a.words.now a.tables.now (strength_of a.s) (length a.tables.now) in
    found_same (full (opened i) (reached i)) (test a.words.now a.tables.now (strength_of a.s) (length a.tables.now) opened reached) (i * PIECE-WORDS * FIELDS) (0 + i * PIECE-PAGES) PIECE-PAGES
    (λ k u.
    let piece : (0 + i * PIECE-PAGES + k) / PIECE-PAGES ≡ i = omega arith in
    let page : 0 + i * PIECE-PAGES + k ≡ i * PIECE-WORDS * FIELDS + k = omega arith in
    ap (λ (j : ℕ). full (opened j) (reached j) (0 + i * PIECE-PAGES + k)) piece ∙ ap (full (opened i) (reached i)) page)
    c.in_piece.result (c.in_piece.ensures.1 (opened i) (reached i) (λ f v. c.of_piece-base.ensures f (opened i) (reached i) v (h i low)))

pub overflow_add-result : goal.overflow_add-result
overflow_add-result c = omega (arith, c.in-Some.ensures.0, c.loop-i-test.true)

pub returns-in-Some : goal.returns-in-Some
returns-in-Some c =
    let low = c.loop-i-test.true in
    λ opened reached h. found_after _ 0 _ (c.loop-i.invariant opened reached h) PIECE-PAGES block_pages _ (rw c.in-Some.is at (here (goal.at.returns-in-Some c).After-in_piece opened reached h)) (omega (arith, low))

pub loop-i-preserved : goal.loop-i-preserved
loop-i-preserved c =
    let e : c.loop-i.i * PIECE-PAGES + PIECE-PAGES ≡ (c.loop-i.i + 1) * PIECE-PAGES = omega arith in
    λ opened reached h. rw e at (none_next _ 0 _ (c.loop-i.invariant opened reached h) PIECE-PAGES (rw c.in_default.is at (here (goal.at.loop-i-preserved c).After-in_piece opened reached h)))

pub returns : goal.returns
returns c = let e : c.loop-i.i * PIECE-PAGES ≡ block_pages = omega arith in λ opened reached h. none_at_all _ 0 block_pages (rw e at (c.loop-i.invariant opened reached h))
