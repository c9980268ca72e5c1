-- `api::mpt_lookup` meets its contract: privilege and kind are known by their codes, and else the answer is 255.
use mathlib.Core.Path.{sym, ◌∙◌}
use Rattle.api.proofs.Faults.{fault_of_lookup}
use Rattle.api.proofs.mpt_lookup.Goals as goal

pub answer_word-requires : goal.answer_word-requires
answer_word-requires c = λ cause e. rw (fault_of_lookup _ _ _ _ _ _ cause (sym c.lookup.ensures ∙ e)) c.fault_word-no.ensures
