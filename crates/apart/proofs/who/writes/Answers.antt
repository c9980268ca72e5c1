-- `apart::who::writes` meets its contract.
use Rattle.model.specs.Apart.{grants}
use Rattle.apart.proofs.who.writes.Goals as goal

pub returns : goal.returns
unfolding grants
returns c = c.may.ensures
