-- `lookup::found` meets its contract: each arm is given what the entry is, and the bound that `decode` keeps makes it a permission.
use Rattle.model.specs.Walk.{found}
use Rattle.lookup.proofs.found.Goals as goal

pub returns-in-Flat : goal.returns-in-Flat
unfolding found
returns-in-Flat c = rw (c.in-Flat.is, c.permission_of.ensures)

pub returns-in-Pieces : goal.returns-in-Pieces
unfolding found
returns-in-Pieces c = rw (c.in-Pieces.is, c.permission_of-in-Pieces.ensures, c.piece.ensures.0, c.piece_of.ensures.0)

pub returns-in-Invalid : goal.returns-in-Invalid
unfolding found
returns-in-Invalid c = rw c.in-Invalid.is
