-- `sound::tables` meets its contract: the invariant: the slots that are left, from the marks so far, decide the whole.
use mathlib.Core.Path.{sym, ◌∙◌}
use Prim.Native.Nat.{◌≤◌, ◌<◌}
use native.Mathlib.Omega.{arith}
use lib.ListN.{length}
use Rattle.scan.proofs.Loops.{all_on, all_stopped, all_ended}
use Rattle.sound.proofs.tables.Goals as goal

pub returns-then-not-slot : goal.returns-then-not-slot
returns-then-not-slot c = let h : c.loop-r.r-index < length c.args.slots = omega arith in
    sym (c.loop-r.invariant ∙ all_stopped _ _ _ _ h (rw c.if-not-slot.true at c.slot.ensures))

pub loop-r-preserved : goal.loop-r-preserved
loop-r-preserved c = let h : c.loop-r.r-index < length c.args.slots = omega arith in
    c.loop-r.invariant ∙ all_on _ _ _ _ h (rw c.if-not-slot.false at c.slot.ensures)

pub returns : goal.returns
returns c = let h : length c.args.slots ≤ c.loop-r.r-index = omega arith in
    sym (c.loop-r.invariant ∙ all_ended _ _ _ _ h)
