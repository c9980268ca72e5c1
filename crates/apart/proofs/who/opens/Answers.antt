-- `apart::who::opens` meets its contract: each permission is compared.
use mathlib.Core.Path.{◌≡◌, refl, ◌∙◌}
use mathlib.Core.Bool.{not}
use denote.Enum.Bare.{sameb}
use Rattle.model.specs.Access.{may, may_rows, column_of}
use Rattle.model.specs.Apart.{grants, grants_any}
use Rattle.model.specs.Entry.{perm}
use Rattle.types.specs.contracts.Permission.{the_type}
use Rattle.types.specs.declared.Permission.{Permission}
use Rattle.types.specs.declared.Permission.TheVariants as permission
use Rattle.types.specs.Views.{permission_number}
use Rattle.apart.proofs.who.opens.Goals as goal

by_kind : (p : Permission) → not (sameb the_type p permission.None) ≡ grants_any (perm (permission_number p))
unfolding grants_any grants may may_rows column_of
by_kind permission.None = refl
by_kind permission.Rx = refl
by_kind permission.Rw = refl
by_kind permission.Rwx = refl

pub returns : goal.returns
returns c = c.ne.ensures ∙ by_kind c.args.p
