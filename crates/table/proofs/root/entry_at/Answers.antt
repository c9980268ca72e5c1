-- `table::root::entry_at` meets its contract: an entry of a lent page lies inside the lent words.
use mathlib.Core.Path.{◌∙◌}
use Rattle.laws.proofs.FrameNumbers.{entry_at_lem}
use Rattle.table.proofs.root.entry_at.Goals as goal

pub returns : goal.returns
returns c = (c.decode.ensures.0 ∙ entry_at_lem _ _ _ _ _ c.requires.1 c.page_at.ensures.0, c.decode.ensures.1)
