-- `forms::gibs::read_page` meets its contract: a block that has its page takes none; for any other its form decides.
use mathlib.Core.Path.{sym, ap, ◌∙◌}
use mathlib.Core.Bool.{false}
use Rattle.shapes.proofs.CountLaws.{table_none}
use Rattle.model.specs.Forms as model
use Rattle.model.specs.Stores.{needs_page}
use Rattle.forms.proofs.gibs.read_page.Goals as goal

pub returns-then-not-needs_page : goal.returns-then-not-needs_page
returns-then-not-needs_page c = let ea = c.entry_at-e.ensures.0 in
    rw (table_none _ (model.form_in _ _ _ false 0 _ _) (ap (needs_page model.want_table) (sym ea) ∙ sym c.needs_page.ensures ∙ c.if-not-needs_page.true))
