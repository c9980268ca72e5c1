-- `forms::words::mixed_word` meets its contract: the old fields below the range, the asked permission in it, and the old ones above.
use mathlib.Core.Path.{ap, ◌∙◌}
use Prim.Native.Nat.{ℕ}
use native.Mathlib.Omega.{arith}
use Rattle.forms.proofs.Ends.{first_up, past_up}
use Rattle.shapes.proofs.SpliceLaws.{mixed_spliced}
use Rattle.laws.proofs.Splices.{spliced}
use Rattle.forms.proofs.words.mixed_word.Goals as goal

pub returns : goal.returns
returns c =
    let a = c.args in
    let fair = a.edit.fair in
    let lo : ℕ = c.cut-low.result in
    let hi : ℕ = c.cut-high.result in
    c.splice_fields-2.ensures
    ∙ ap (λ (w : ℕ). spliced 16 hi w a.old) (c.splice_fields.ensures ∙ ap (spliced 16 lo a.old) c.spread.ensures)
    ∙ mixed_spliced _ (rw (first_up fair) at c.cut-low.ensures) (rw (past_up fair) at c.cut-high.ensures) a.old (omega arith) fair.small
