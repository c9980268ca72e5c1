-- `api::mpt_open` meets its contract: the word of what `monitor::open` answers, and the memory that it leaves.
use mathlib.Core.Path.{ap, ◌∙◌}
use Rattle.api.specs.CallWords.{opened_word}
use Rattle.model.specs.Calls.{Outcome}
use Rattle.api.proofs.mpt_open.Goals as goal

pub returns : goal.returns
returns c = (
  c.opened_word.ensures c.«open».new.words ∙ ap (λ (o : Outcome). opened_word o c.args.slot) c.«open».ensures,
  ap (λ (o : Outcome). o.memory) c.«open».ensures,
)
