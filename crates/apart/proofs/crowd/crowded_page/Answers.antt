-- `apart::crowd::crowded_page` meets its contract: the invariant: no page of the blocks passed is crowded.
use mathlib.Core.Path.{◌≡◌, sym, ap, ◌∙◌}
use Prim.Native.Nat.{ℕ, ◌+◌, ◌*◌}
use native.Mathlib.Nat.{zero-add}
use native.Mathlib.Omega.{arith}
use Rattle.model.specs.Frame.{space}
use Rattle.model.specs.Layout.{block_pages}
use Rattle.laws.proofs.FrameNumbers.{bounds}
use Rattle.sharing.specs.Crowds.{crowded}
use Rattle.sharing.specs.First.{FirstOf}
use Rattle.sharing.proofs.CrowdLaws.{blocks_space}
use Rattle.sharing.proofs.FirstLaws.{none_at_all, none_next, found_after}
use Rattle.table.specs.Board.{frame_of}
use Rattle.types.specs.Views.{strength_of}
use Rattle.apart.proofs.crowd.crowded_page.Goals as goal
use Rattle.apart.proofs.crowd.crowded_page.Goals.{After-block_count-n, After-in_block}

-- the address space, by its blocks
pages : (c : After-block_count-n) → let a = c.args in space (frame_of a.f a.words.now) ≡ c.block_count-n.result * block_pages
pages c =
    let F = frame_of c.args.f c.args.words.now in
    blocks_space F (bounds F c.requires.0).paw_low_lem ∙ ap (λ (n : ℕ). n * block_pages) (sym c.block_count-n.ensures.0)

-- the block that is looked at
here : (c : After-in_block) → let a = c.args in
    FirstOf (crowded (frame_of a.f a.words.now) a.words.now a.slots (strength_of a.s)) (0 + c.loop-b.b * block_pages) block_pages c.in_block.result
here c = rw (zero-add (c.loop-b.b * block_pages)) c.in_block.ensures

pub in_block-requires : goal.in_block-requires
in_block-requires c =
    let low = c.loop-b-test.true in
    (omega (arith, low, c.block_count-n.ensures.1), (omega (arith, low, c.block_count-n.ensures.0), omega (arith, low, pages (goal.at.in_block-requires c).After-block_count-n)), c.requires.1)

pub returns-in-Some : goal.returns-in-Some
returns-in-Some c =
    found_after _ 0 _ c.loop-b.invariant block_pages _ _ (rw c.in-Some.is at (here (goal.at.returns-in-Some c).After-in_block)) (omega (arith, c.loop-b-test.true, pages (goal.at.returns-in-Some c).After-block_count-n))

pub loop-b-preserved : goal.loop-b-preserved
loop-b-preserved c =
    let e : c.loop-b.b * block_pages + block_pages ≡ (c.loop-b.b + 1) * block_pages = omega arith in
    rw e at (none_next _ 0 _ c.loop-b.invariant block_pages (rw c.in_default.is at (here (goal.at.loop-b-preserved c).After-in_block)))

pub returns : goal.returns
returns c =
    let e : c.loop-b.b * block_pages ≡ c.block_count-n.result * block_pages = omega arith in
    rw (pages (goal.at.returns c).After-block_count-n) (none_at_all _ 0 (c.block_count-n.result * block_pages) (rw e at c.loop-b.invariant))
