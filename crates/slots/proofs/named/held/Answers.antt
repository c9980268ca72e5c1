-- `slots::named::held` meets its contract: the invariant: the slots that are left decide whether one holds the SDID.
use mathlib.Core.Path.{sym, ◌∙◌}
use Prim.Native.Nat.{◌≤◌, ◌<◌}
use native.Mathlib.Omega.{arith}
use lib.ListN.{length}
use Rattle.table.specs.Board.{board}
use Rattle.shapes.proofs.SlotLaws.{held_here, held_later, held_by_none}
use Rattle.slots.proofs.named.held.Goals as goal

pub returns-then-holds : goal.returns-then-holds
returns-then-holds c = let h : c.loop-slot.slot-index < length c.args.slots = omega arith in
    sym (c.loop-slot.invariant ∙ held_here board _ _ _ h (sym c.holds.ensures ∙ c.if-holds.true))

pub loop-slot-preserved : goal.loop-slot-preserved
loop-slot-preserved c = let h : c.loop-slot.slot-index < length c.args.slots = omega arith in
    c.loop-slot.invariant ∙ held_later board _ _ _ h (sym c.holds.ensures ∙ c.if-holds.false)

pub returns : goal.returns
returns c = let h : length c.args.slots ≤ c.loop-slot.slot-index = omega arith in
    sym (c.loop-slot.invariant ∙ held_by_none board _ _ _ h)
