-- `slots::named::holds` meets its contract: an empty slot holds no SDID, whatever its bits say.
use borrow.Author.Tests.{eq-eqb, ne_eqb}
use Rattle.model.specs.Sound.{is_open}
use Rattle.slots.proofs.named.holds.Goals as goal

pub returns-then-slot-eq0 : goal.returns-then-slot-eq0
unfolding is_open
returns-then-slot-eq0 c = rw (eq-eqb _ 0 c.if-slot-eq0.true)

pub returns : goal.returns
unfolding is_open
returns c = rw (ne_eqb _ _ c.if-slot-eq0.false, c.sdid.ensures.0)
