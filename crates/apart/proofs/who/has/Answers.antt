-- `apart::who::has` meets its contract: an empty slot; else what the walk finds, as a permission.
use mathlib.Core.Path.{◌≡◌, refl, ap, ◌∙◌}
use borrow.Author.Tests.{ne_eqb}
use Rattle.model.specs.Entry.{Found, perm, faults}
use Rattle.model.specs.Forms.{perm_of}
use Rattle.model.specs.Sound.{is_open}
use Rattle.lookup.specs.Granted.{granted_of}
use Rattle.sharing.specs.Faults.{slot_grants}
use Rattle.apart.proofs.who.has.Goals as goal

-- a walk that faults serves no access, and neither does none
as_number : (f : Found) → granted_of f ≡ perm_of f
unfolding perm_of
as_number (perm p) = refl
as_number faults = refl

pub returns-then-register-eq0 : goal.returns-then-register-eq0
unfolding slot_grants is_open
returns-then-register-eq0 c = rw c.if-register-eq0.true

pub returns : goal.returns
unfolding slot_grants is_open
returns c = rw (ne_eqb _ 0 c.if-register-eq0.false, ← c.ppn.ensures.0) (c.granted.ensures ∙ ap granted_of c.walk.ensures ∙ as_number _)
