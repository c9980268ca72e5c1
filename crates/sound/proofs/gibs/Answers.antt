-- `sound::gibs` meets its contract: the invariant: whole GiBs are left, and they decide the whole from the marks so far.
use mathlib.Core.Path.{◌≡◌, sym, ◌∙◌}
use Prim.Native.Nat.{◌+◌, ◌-◌}
use native.Mathlib.Omega.{arith}
use Rattle.model.specs.Layout.{gib_blocks}
use Rattle.table.specs.Board.{frame_of}
use Rattle.scan.specs.Scan.{scan_run, word_step}
use Rattle.scan.proofs.Loops.{left, left_all, left_on, left_stopped, left_none}
use Rattle.sound.proofs.gibs.Goals as goal
use Rattle.sound.proofs.gibs.Goals.{Else-not-gib}

-- a GiB that passes
passed : (c : Else-not-gib) → let a = c.args in let m = a.words.now in
    scan_run (word_step (frame_of a.f m) m a.start) a.free.now (a.end - a.start) 0
    ≡ left (frame_of a.f m) m a.start a.end (c.loop-at.at + gib_blocks) c.gib.new.free
passed c =
    let a = c.args in
    let m = a.words.now in
    c.loop-at.invariant.1
    ∙ left_on (frame_of a.f m) m a.start a.end c.loop-at.at gib_blocks (omega arith) (omega (arith, c.loop-at.invariant.0)) c.loop-at.free c.if-not-gib.ensures

pub loop-at-init : goal.loop-at-init
loop-at-init c = let a = c.args in (c.requires.1, left_all (frame_of a.f a.words.now) a.words.now a.start a.end a.free.now)

pub gib-requires : goal.gib-requires
gib-requires c = (c.requires.0, omega (arith, c.loop-at.invariant.0))

pub returns-then-not-gib : goal.returns-then-not-gib
returns-then-not-gib c =
    let a = c.args in
    let m = a.words.now in
    sym (c.loop-at.invariant.1
    ∙ left_stopped (frame_of a.f m) m a.start a.end c.loop-at.at gib_blocks (omega arith) (omega (arith, c.loop-at.invariant.0)) c.loop-at.free c.if-not-gib.ensures)

pub loop-at-preserved : goal.loop-at-preserved
loop-at-preserved c = (omega (arith, c.loop-at.invariant.0), passed (goal.at.loop-at-preserved c).Else-not-gib)

pub returns : goal.returns
returns c =
    let a = c.args in
    sym (c.loop-at.invariant.1 ∙ left_none (frame_of a.f a.words.now) a.words.now a.start a.end c.loop-at.at c.loop-at.free c.loop-at-test.false)

pub returns-else-not-gib : goal.returns-else-not-gib
returns-else-not-gib c =
    let a = c.args in
    sym (passed (goal.at.returns-else-not-gib c).Else-not-gib
    ∙ left_none (frame_of a.f a.words.now) a.words.now a.start a.end (c.loop-at.at + gib_blocks) c.gib.new.free (omega arith))
