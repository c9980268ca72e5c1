-- `table::register::new` meets its contract: the fields stand apart, so that their sum is the register and fits a word.
use Rattle.model.specs.Register.{register_of}
use Rattle.table.proofs.register.new.Goals as goal

pub returns : goal.returns
unfolding register_of
returns c = c.narrow.ensures
