-- `apart::who::reaches` meets its contract: a strength for each arm.
use Rattle.sharing.specs.Crowds.{reach_of}
use Rattle.apart.proofs.who.reaches.Goals as goal

pub returns-in-Strict : goal.returns-in-Strict
unfolding reach_of
returns-in-Strict c = rw c.in-Strict.is c.opens.ensures

pub returns-in-Sharing : goal.returns-in-Sharing
unfolding reach_of
returns-in-Sharing c = rw c.in-Sharing.is c.writes.ensures
