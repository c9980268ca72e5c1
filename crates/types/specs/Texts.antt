-- What is printed of what a call answers.
use Rattle.std.specs.Prelude.{List, ℕ, ◌++◌, codes}
use Rattle.std.specs.Fmt.{decimal}
use Rattle.types.specs.declared.Permission.{Permission}
use Rattle.types.specs.declared.Permission.TheVariants.{None, Rx, Rw, Rwx}
use Rattle.types.specs.declared.Answer.{Answer}
use Rattle.types.specs.declared.Answer.TheVariants.{Allowed, Fault}
use Rattle.types.specs.declared.Refusal.{Refusal}
use Rattle.types.specs.Views.{cause_number, refusal_number}

abbrev pub refusal_text : Refusal → List ℕ
refusal_text why = codes "refused " ++ decimal (refusal_number why)

abbrev pub answer_text : Answer → List ℕ
answer_text Allowed = codes "allowed"
answer_text (Fault cause) = codes "fault " ++ decimal (cause_number cause)

abbrev pub permission_text : Permission → List ℕ
permission_text None = codes "none"
permission_text Rx = codes "rx"
permission_text Rw = codes "rw"
permission_text Rwx = codes "rwx"
