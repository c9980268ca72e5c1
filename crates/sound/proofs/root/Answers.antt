-- `sound::root` meets its contract: the root is claimed before its entries are read, so it is lent, and its words are its entries.
use mathlib.Core.Path.{◌≡◌, ap, ◌∙◌}
use mathlib.Core.Bool.{true}
use Prim.Native.Nat.{ℕ, ◌+◌, ◌-◌, ◌*◌, ◌%◌, ◌^◌}
use native.Mathlib.Omega.{arith}
use lib.Pow.{pow-add}
use Rattle.model.specs.Frame.{blocks, lent}
use Rattle.model.specs.Layout.{gib_blocks}
use Rattle.laws.proofs.FrameNumbers.{bounds}
use Rattle.table.specs.Board.{frame_of}
use Rattle.scan.specs.Scan.{scan_run, word_step, block_step, root_step}
use Rattle.scan.proofs.Loops.{claimed_lent, words_are_entries}
use Rattle.sound.proofs.root.Goals as goal
use Rattle.sound.proofs.root.Goals.{After-block_count-count, Then-claim}

is_lent_lem : (c : Then-claim) → let a = c.args in lent (frame_of a.f a.words.now) a.page.0 ≡ true
is_lent_lem c = claimed_lent _ _ _ (rw c.if-claim.true at c.claim.ensures)

-- a root has whole GiBs
whole_gibs : (c : After-block_count-count) → c.block_count-count.result % gib_blocks ≡ 0
unfolding blocks
whole_gibs c =
    let paw = c.args.f.paw in
    let e : paw - 25 ≡ paw - 30 + 5 = omega (arith, (bounds _ c.requires).paw_low_lem) in
    let w : c.block_count-count.result ≡ 2 ^ (paw - 30) * gib_blocks = c.block_count-count.ensures.0 ∙ ap (λ (k : ℕ). 2 ^ k) e ∙ pow-add 2 (paw - 30) 5 in
    omega (arith, w)

pub page_at-at-requires : goal.page_at-at-requires
page_at-at-requires c = is_lent_lem (goal.at.page_at-at-requires c).Then-claim

pub gibs-requires : goal.gibs-requires
gibs-requires c =
    let w = whole_gibs (goal.at.gibs-requires c).After-block_count-count in
    (c.requires, omega (arith, w), omega (arith, c.page_at-at.ensures.1, c.block_count-count.ensures.1))

pub returns-then-claim : goal.returns-then-claim
unfolding root_step
returns-then-claim c = let a = c.args in
    let F = frame_of a.f a.words.now in
    let k = c.claim.new.free in
    let e : c.page_at-at.result + c.block_count-count.result - c.page_at-at.result ≡ c.block_count-count.result = omega arith in
    rw (← c.claim.ensures, c.if-claim.true)
    (c.gibs.ensures
    ∙ ap (λ (i : ℕ). scan_run (word_step F a.words.now c.page_at-at.result) k i 0) e
    ∙ words_are_entries F a.words.now a.page.0 c.page_at-at.result c.block_count-count.result k (is_lent_lem (goal.at.returns-then-claim c).Then-claim) c.page_at-at.ensures.0
    ∙ ap (λ (i : ℕ). scan_run (block_step F a.words.now a.page.0) k i 0) c.block_count-count.ensures.0)

pub returns : goal.returns
unfolding root_step
returns c = rw (← c.claim.ensures, c.if-claim.false)
