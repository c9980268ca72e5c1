-- `api::mpt_sound` meets its contract: the number of the refusal that `sound::admit` answers, and else 0.
use mathlib.Core.Path.{sym, ap, ◌∙◌}
use Rattle.api.specs.CallWords.{sound_word}
use Rattle.scan.proofs.Admissions.{number_of, admission_number}
use Rattle.api.proofs.mpt_sound.Goals as goal

pub returns-in-Err : goal.returns-in-Err
unfolding sound_word
returns-in-Err c = c.from.ensures ∙ sym (ap number_of c.in-Err.ensures) ∙ admission_number _ _ _

pub returns-in-Ok : goal.returns-in-Ok
unfolding sound_word
returns-in-Ok c = sym (ap number_of c.in-Ok.ensures.0) ∙ admission_number _ _ _
