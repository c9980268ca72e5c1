-- `api::mpt_edit` meets its contract: a permission is known by its code, and else nothing is done.
use mathlib.Core.Path.{sym, ap, ◌∙◌}
use Rattle.api.specs.CallWords.{done_word}
use Rattle.model.specs.Calls.{Outcome}
use Rattle.api.proofs.mpt_edit.Goals as goal

pub returns : goal.returns
returns c =
    rw (sym c.in-Ok.ensures) (
      c.done_word.ensures c.edit-o.new.words ∙ ap (λ (o : Outcome). done_word o) c.edit-o.ensures,
      ap (λ (o : Outcome). o.memory) c.edit-o.ensures,
    )
