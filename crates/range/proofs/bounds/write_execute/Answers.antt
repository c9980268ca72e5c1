-- `range::bounds::write_execute` meets its contract: it is the definition.
use mathlib.Core.Path.{refl}
use Rattle.model.specs.Calls.{write_execute}
use Rattle.range.proofs.bounds.write_execute.Goals as goal

pub returns : goal.returns
unfolding write_execute
returns c = refl
