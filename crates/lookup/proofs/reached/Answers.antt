-- `lookup::reached` meets its contract: the tests of the definition in their order.
use denote.Enum.Bare.{sameb}
use mathlib.Core.Path.{◌≡◌, refl}
use Rattle.model.specs.Lookup.{is_machine}
use Rattle.types.specs.Views.{privilege_of}
use Rattle.types.specs.contracts.Privilege.{the_type}
use Rattle.types.specs.declared.Privilege.{Privilege}
use Rattle.types.specs.declared.Privilege.TheVariants.{Machine, Supervisor, User}
use Rattle.lookup.proofs.reached.Goals as goal

-- the code's test of the privilege is the definition's
machine_is : (p : Privilege) → is_machine (privilege_of p) ≡ sameb the_type p Machine
unfolding is_machine
machine_is Machine = refl
machine_is Supervisor = refl
machine_is User = refl

pub returns-then-eq : goal.returns-then-eq
returns-then-eq c = rw (machine_is, ← c.eq.ensures, c.if-eq.true)

pub returns-then-is_bare : goal.returns-then-is_bare
returns-then-is_bare c = rw (machine_is, ← c.eq.ensures, c.if-eq.false, ← c.is_bare.ensures, c.if-is_bare.true)

pub returns : goal.returns
returns c = rw (machine_is, ← c.eq.ensures, c.if-eq.false, ← c.is_bare.ensures, c.if-is_bare.false, ← c.page_of.ensures, ← c.ppn.ensures.0) c.walk.ensures
