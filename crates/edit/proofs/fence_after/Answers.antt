-- `edit::fence_after` meets its contract: the code's tests are those of the definition, in its order.
use mathlib.Core.Path.{sym, ◌∙◌}
use borrow.Author.Tests.{eq-eqb, ne_eqb}
use Rattle.sequence.specs.StoresMade.{fence_after}
use Rattle.edit.proofs.fence_after.Goals as goal

pub returns-then-count-eq0 : goal.returns-then-count-eq0
unfolding fence_after
returns-then-count-eq0 c = rw (eq-eqb _ 0 c.if-count-eq0.true)

pub returns-then-edit-ne-PAGE_BYTES : goal.returns-then-edit-ne-PAGE_BYTES
unfolding fence_after
returns-then-edit-ne-PAGE_BYTES c = rw (ne_eqb _ 0 c.if-count-eq0.false, ne_eqb _ 4096 c.if-edit-ne-PAGE_BYTES.true)

pub returns-then-count-ne1 : goal.returns-then-count-ne1
unfolding fence_after
returns-then-count-ne1 c = rw (ne_eqb _ 0 c.if-count-eq0.false, eq-eqb _ 4096 c.if-edit-ne-PAGE_BYTES.false, ne_eqb _ 1 c.if-count-ne1.true)

pub returns-in_default : goal.returns-in_default
unfolding fence_after
returns-in_default c = rw (ne_eqb _ 0 c.if-count-eq0.false, eq-eqb _ 4096 c.if-edit-ne-PAGE_BYTES.false, eq-eqb _ 1 c.if-count-ne1.false, c.in_default.is)

pub returns-then-in_root : goal.returns-then-in_root
unfolding fence_after
returns-then-in_root c = rw (ne_eqb _ 0 c.if-count-eq0.false, eq-eqb _ 4096 c.if-edit-ne-PAGE_BYTES.false, eq-eqb _ 1 c.if-count-ne1.false, c.in-Some.is, sym c.in_root.ensures ∙ c.if-in_root.true)

pub returns : goal.returns
unfolding fence_after
returns c = rw (ne_eqb _ 0 c.if-count-eq0.false, eq-eqb _ 4096 c.if-edit-ne-PAGE_BYTES.false, eq-eqb _ 1 c.if-count-ne1.false, c.in-Some.is, sym c.in_root.ensures ∙ c.if-in_root.false)
