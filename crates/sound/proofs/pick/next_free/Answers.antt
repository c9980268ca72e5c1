-- `sound::pick::next_free` meets its contract: the lowest mark is that of the first marked page, if it is that of a lent page.
use mathlib.Core.Path.{sym, ap, ◌∙◌}
use mathlib.Core.List.{◌∷◌}
use Prim.Native.Nat.{◌+◌}
use native.Mathlib.Omega.{arith}
use Rattle.laws.proofs.FrameNumbers.{bounds, few_pages}
use Rattle.table.specs.Board.{frame_over}
use Rattle.marks.specs.Marks.{Marks}
use Rattle.scan.specs.FreeMarks.{marked_pages}
use Rattle.scan.proofs.MarkedPages.{none_marked, lowest_picked}
use Rattle.sound.proofs.pick.next_free.Goals as goal

pub returns-in_err-at : goal.returns-in_err-at
returns-in_err-at c =
    let none = none_marked (frame_over c.args.f c.args.n) c.args.free.now _ c.in_err-at.ensures.below (omega (arith, (bounds _ c.requires).most)) in
    rw c.from_residual.ensures (none, none)

pub returns-then-n-at : goal.returns-then-n-at
returns-then-n-at c =
    let none = none_marked (frame_over c.args.f c.args.n) c.args.free.now _ c.in_ok-at.ensures.1.below c.if-n-at.true in
    (none, none)

pub overflow_add-result : goal.overflow_add-result
overflow_add-result c = let b = bounds _ c.requires in omega (arith, b, few_pages _ b.paw_high_lem)

pub returns : goal.returns
returns c =
    let F = frame_over c.args.f c.args.n in
    let low = c.in_ok-at.ensures in
    lowest_picked F c.args.free.now _ low.1.below c.if-n-at.false (low.1.is_marked low.0)
    ∙ ap (λ (left : Marks). (c.args.f.first.0 + c.in_ok-at.at) ∷ marked_pages F left) (sym c.take.ensures.1)
