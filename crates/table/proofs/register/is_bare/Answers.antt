-- `table::register::is_bare` meets its contract: the definition's own test, on MODE.
use Rattle.model.specs.Register.{is_bare}
use Rattle.table.proofs.register.is_bare.Goals as goal

pub returns : goal.returns
unfolding is_bare
returns c = rw c.mode.ensures.0
