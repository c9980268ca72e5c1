-- `forms::words::old_word` meets its contract: by what the block's entry says.
use Rattle.laws.proofs.FrameNumbers.{word_at_lem}
use Rattle.model.specs.Frame.{word_at}
use Rattle.forms.proofs.words.old_word.Goals as goal

pub returns-in-Table : goal.returns-in-Table
unfolding word_at
returns-in-Table c =
    rw c.in-Table.is (word_at_lem _ _ _ _ _ c.page_at.ensures.0)
