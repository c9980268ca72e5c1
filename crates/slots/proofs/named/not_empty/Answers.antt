-- `slots::named::not_empty` meets its contract: past the last slot none is empty; else the slot's own word tells.
use borrow.Author.Tests.{lt-ltb}
use Rattle.model.specs.Layout.{slot_count}
use Rattle.model.specs.Sound.{is_open}
use Rattle.model.specs.Calls.{slot_at}
use Rattle.slots.proofs.named.not_empty.Goals as goal

pub returns : goal.returns
unfolding is_open slot_at
returns c = rw (lt-ltb _ slot_count c.if-slot-ge-SLOTS.false)
