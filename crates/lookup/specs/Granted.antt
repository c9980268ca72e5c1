-- What a walk finds, as a permission: none where it faults, since neither serves any access.
use Rattle.std.specs.Prelude.{ℕ}
use Rattle.model.specs.Entry.{Found, perm, faults}

abbrev pub granted_of : Found → ℕ
granted_of (perm p) = p
granted_of faults = 0
