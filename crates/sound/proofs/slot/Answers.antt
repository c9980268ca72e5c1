-- `sound::slot` meets its contract: an empty slot claims nothing.
use borrow.Author.Tests.{eq-eqb, ne_eqb}
use Rattle.model.specs.Sound.{is_open}
use Rattle.scan.specs.Scan.{slot_step}
use Rattle.sound.proofs.slot.Goals as goal

pub returns-then-register-eq0 : goal.returns-then-register-eq0
unfolding slot_step is_open
returns-then-register-eq0 c = rw (eq-eqb _ _ c.if-register-eq0.true)

pub returns : goal.returns
unfolding slot_step is_open
returns c = rw (ne_eqb _ _ c.if-register-eq0.false, ← c.ppn.ensures.0) c.root.ensures
