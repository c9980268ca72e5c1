-- `slots::named::not_open` meets its contract: past the last slot none is open; else the slot's own word tells.
use mathlib.Core.Path.{◌≡◌, refl}
use mathlib.Core.Bool.{Bool, true, false, not}
use borrow.Author.Tests.{lt-ltb}
use Rattle.model.specs.Layout.{slot_count}
use Rattle.model.specs.Sound.{is_open}
use Rattle.model.specs.Calls.{slot_at}
use Rattle.slots.proofs.named.not_open.Goals as goal

not_not : (b : Bool) → b ≡ not (not b)
not_not true = refl
not_not false = refl

pub returns : goal.returns
unfolding is_open slot_at
returns c = rw (lt-ltb _ slot_count c.if-slot-ge-SLOTS.false) (not_not _)
