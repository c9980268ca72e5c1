-- `table::lent::frame_ok` meets its contract: the tests come in the order of the definition; the room is tested by a difference, so that no sum wraps.
use mathlib.Core.Path.{◌≡◌, refl, sym, ◌∙◌}
use mathlib.Core.Bool.{Bool, true, false, ◌&&◌}
use Prim.Native.Nat.{ℕ, ◌+◌, ◌-◌, ◌*◌, ◌/◌, ◌%◌, ◌≤◌, ◌^◌}
use native.Mathlib.Omega.{arith}
use lib.ListN.{length}
use lib.Dec.{eqb, leb}
use lib.Pow.{pow_mono}
use borrow.Author.Tests.{eq-eqb, ne_eqb, eqb-true, eqb-false, le-leb, lt-leb}
use Rattle.table.specs.Board.{board}
use Rattle.model.specs.Frame.{space, bounds_ok, frame_ok}
use Rattle.laws.proofs.Tests.{tests}
use Rattle.table.proofs.lent.frame_ok.Goals as goal
use Rattle.table.proofs.lent.frame_ok.Goals.{After-pow2}

-- so many words are whole pages
whole : (n : ℕ) (b : Bool) → eqb (n % board.words) 0 ≡ b → eqb (n % board.words) 0 ≡ eqb n (n / board.words * board.words)
whole n true e = e ∙ sym (eq-eqb n (n / board.words * board.words) (omega (arith, eqb-true (n % board.words) 0 e)))
whole n false e = e ∙ sym (ne_eqb n (n / board.words * board.words) (λ s. eqb-false (n % board.words) 0 e (omega arith)))

-- within every bound but the last two
inside : (paw first pages : ℕ) (room whole : Bool) → 30 ≤ paw → paw ≤ 34 → 2 ≤ pages → pages ≤ 256 → 1 ≤ first
    → (leb 30 paw && leb paw 34 && leb 2 pages && leb pages 256 && leb 1 first && room && whole) ≡ (room && whole)
inside paw first pages room whole a b c d e = rw (le-leb 30 paw a, le-leb paw 34 b, le-leb 2 pages c, le-leb pages 256 d, le-leb 1 first e)

pub returns-then-paw-lt-MIN_PAW : goal.returns-then-paw-lt-MIN_PAW
unfolding frame_ok bounds_ok space
returns-then-paw-lt-MIN_PAW c = search tests

pub returns-then-paw-gt-MAX_PAW : goal.returns-then-paw-gt-MAX_PAW
unfolding frame_ok bounds_ok space
returns-then-paw-gt-MAX_PAW c = search tests

pub returns-then-pages-lt-MIN_PAGES : goal.returns-then-pages-lt-MIN_PAGES
unfolding frame_ok bounds_ok space
returns-then-pages-lt-MIN_PAGES c = search tests

pub returns-then-pages-gt-MAX_PAGES : goal.returns-then-pages-gt-MAX_PAGES
unfolding frame_ok bounds_ok space
returns-then-pages-gt-MAX_PAGES c = search tests

pub returns-then-first-lt1 : goal.returns-then-first-lt1
unfolding frame_ok bounds_ok space
returns-then-first-lt1 c = search tests

pub overflow_sub-pow2 : goal.overflow_sub-pow2
overflow_sub-pow2 c = omega (arith, c.pow2.ensures, pow_mono {i = 18} {j = c.args.f.paw - 12} (omega arith))

pub returns-then-pow2-pages : goal.returns-then-pow2-pages
unfolding frame_ok bounds_ok space
returns-then-pow2-pages c = let a = c.args in
    let p = c.pow2.ensures in
    let e : leb (a.f.first.0 + length a.words.now / board.words) (2 ^ (a.f.paw - 12)) ≡ false
    = lt-leb (a.f.first.0 + length a.words.now / board.words) (2 ^ (a.f.paw - 12)) (omega (arith, p, overflow_sub-pow2 (goal.at.returns-then-pow2-pages c).After-pow2)) in
    sym (inside a.f.paw a.f.first.0 (length a.words.now / board.words) _ _ (omega arith) (omega arith) (omega arith) (omega arith) (omega arith) ∙ rw e)

pub returns : goal.returns
unfolding frame_ok bounds_ok space
returns c = let a = c.args in
    let p = c.pow2.ensures in
    let e : leb (a.f.first.0 + length a.words.now / board.words) (2 ^ (a.f.paw - 12)) ≡ true
    = le-leb (a.f.first.0 + length a.words.now / board.words) (2 ^ (a.f.paw - 12)) (omega (arith, p, overflow_sub-pow2 (goal.at.returns c).After-pow2)) in
    sym (inside a.f.paw a.f.first.0 (length a.words.now / board.words) _ _ (omega arith) (omega arith) (omega arith) (omega arith) (omega arith) ∙ rw e (sym (whole (length a.words.now) _ refl)))
