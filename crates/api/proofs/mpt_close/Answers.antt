-- `api::mpt_close` meets its contract: the word of what `monitor::close` answers.
use mathlib.Core.Path.{ap, ◌∙◌}
use Rattle.api.specs.CallWords.{done_word}
use Rattle.model.specs.Calls.{Outcome}
use Rattle.api.proofs.mpt_close.Goals as goal

pub returns : goal.returns
returns c = c.done_word.ensures c.args.words.now ∙ ap (λ (o : Outcome). done_word o) c.close.ensures
