-- `forms::even::even_form` meets its contract: the range is of whole pages, so its ends are page numbers.
use mathlib.Core.Path.{ap, ◌∙◌}
use Prim.Native.Nat.{ℕ, ◌*◌}
use Rattle.table.specs.Board.{EACH-PIECE}
use Rattle.forms.proofs.BoardShape.{board_shape}
use Rattle.forms.proofs.Ends.{first_up, past_up, not_empty}
use Rattle.shapes.proofs.EvenLaws.{mixed_first, mixed_past, even_spliced}
use Rattle.shapes.proofs.SpliceLaws.{splice_bits}
use Rattle.laws.proofs.Splices.{spliced}
use Rattle.model.specs.Forms.{want_pieces}
use Rattle.forms.proofs.even.even_form.Goals as goal

pub returns-then-mixes : goal.returns-then-mixes
returns-then-mixes c =
    let fair = c.args.edit.fair in
    mixed_first _ board_shape _ _ fair.small _ c.requires.0 _ _ c.requires.1 c.requires.2 (not_empty fair) (rw (first_up fair, c.if-mixes.true) at c.mixes.ensures)

pub returns-then-mixes-2 : goal.returns-then-mixes-2
returns-then-mixes-2 c =
    let fair = c.args.edit.fair in
    mixed_past _ board_shape _ _ fair.small _ c.requires.0 _ _ c.requires.1 c.requires.2 (not_empty fair) (rw (← past_up fair) (rw c.if-mixes-2.true at c.mixes-2.ensures))

pub returns : goal.returns
returns c =
    let a = c.args in
    let fair = a.edit.fair in
    let lo : ℕ = c.cut-low.result in
    let hi : ℕ = c.cut-high.result in
    let want : ℕ = a.edit.q.permission * EACH-PIECE in
    ap want_pieces
    (c.splice-2.ensures
    ∙ ap (λ (w : ℕ). spliced 2 (2 * hi) w a.info) (c.splice.ensures ∙ splice_bits 2 lo a.info want)
    ∙ splice_bits 2 hi (spliced 4 lo a.info want) a.info)
    ∙ even_spliced _ board_shape _ _ fair.small _ c.requires.0 _ _ c.requires.1 c.requires.2
    (rw (first_up fair, c.if-mixes.false) at c.mixes.ensures) (rw (past_up fair, c.if-mixes-2.false) at c.mixes-2.ensures)
    lo hi (rw (first_up fair) at c.cut-low.ensures) (rw (past_up fair) at c.cut-high.ensures)
