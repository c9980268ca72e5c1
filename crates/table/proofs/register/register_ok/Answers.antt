-- `table::register::register_ok` meets its contract: the definition's own test, on the fields as the leaves read them.
use Rattle.model.specs.Register.{register_ok}
use Rattle.table.proofs.register.register_ok.Goals as goal

pub returns : goal.returns
unfolding register_ok
returns c = rw (← c.mode-kind.ensures.0, ← c.sdid-domain.ensures.0, ← c.ppn-root.ensures.0)
