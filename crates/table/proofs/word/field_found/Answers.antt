-- `table::word::field_found` meets its contract: the reserved bits of all fields are tested by one mask (`clean_by_mask`).
use mathlib.Core.Path.{sym, ◌∙◌}
use borrow.Author.Tests.{eq-eqb, ne_eqb}
use Rattle.model.specs.Entry.{field_of}
use Rattle.table.specs.Board.{board}
use Rattle.laws.proofs.Reserved.{clean_by_mask}
use Rattle.table.proofs.word.field_found.Goals as goal

pub returns-then-word-eq0 : goal.returns-then-word-eq0
unfolding field_of
returns-then-word-eq0 c =
    rw (sym (clean_by_mask board c.args.word) ∙ eq-eqb _ _ c.if-word-eq0.true, ← c.field-bits.ensures.0, c.permission_of.ensures)

pub returns : goal.returns
unfolding field_of
returns c = rw (sym (clean_by_mask board c.args.word) ∙ ne_eqb _ _ c.if-word-eq0.false)
