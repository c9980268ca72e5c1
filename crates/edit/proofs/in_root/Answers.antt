-- `edit::in_root` meets its contract: the entries of a root lie in one run of words, so a word is one of them if it lies between its two ends.
use mathlib.Core.Path.{ap, ap₂, ◌∙◌}
use Prim.Native.Nat.{ℕ, ◌+◌, ◌-◌, ◌≤◌, ◌<◌, ◌^◌}
use native.Mathlib.Omega.{arith}
use lib.Dec.{ltb}
use borrow.Author.Tests.{le-leb, lt-leb}
use Rattle.laws.proofs.FrameNumbers.{index_add}
use Rattle.model.specs.Fence.{in_root}
use Rattle.model.specs.Frame.{blocks, index_of}
use Rattle.table.specs.Board.{frame_of}
use Rattle.edit.proofs.in_root.Goals as goal

pub returns-then-at-start : goal.returns-then-at-start
unfolding in_root
returns-then-at-start c =
    let a = c.args in
    let h : a.at < index_of (frame_of a.f a.words.now) a.root.0 0 = omega (arith, c.page_at-start.ensures.0) in
    rw (lt-leb _ _ h)

pub returns : goal.returns
unfolding in_root blocks
returns c =
    let a = c.args in
    let start = c.page_at-start.ensures.0 in
    let h : index_of (frame_of a.f a.words.now) a.root.0 0 ≤ a.at = omega (arith, start) in
    rw (le-leb _ _ h)
    (ap (ltb a.at) (ap₂ (λ (j k : ℕ). j + k) start c.block_count.ensures.0 ∙ index_add (frame_of a.f a.words.now) a.root.0 (2 ^ (a.f.paw - 25))))
