-- `table::lent::is_lent` meets its contract: a page is one of a run, tested by its distance from the first.
use Rattle.model.specs.Frame.{lent}
use Rattle.laws.proofs.Tests.{tests, within}
use Rattle.table.proofs.lent.is_lent.Goals as goal

pub returns-then-at-first : goal.returns-then-at-first
unfolding lent
returns-then-at-first c = search tests

pub returns : goal.returns
unfolding lent
returns c = search (tests, within)
