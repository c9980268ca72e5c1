-- `lookup::l2_entry` meets its contract: where the root is lent, its entry; else nothing.
use mathlib.Core.Path.{◌≡◌, sym, ◌∙◌}
use mathlib.Core.Bool.{false}
use Rattle.model.specs.Frame.{lent}
use Rattle.model.specs.Walk.{entry_at, entry_page}
use Rattle.table.specs.Board.{frame_of}
use Rattle.lookup.proofs.l2_entry.Goals as goal

pub returns : goal.returns
unfolding entry_at entry_page
returns c = let a = c.args in
    let none : lent (frame_of a.f a.words.now) a.root.0 ≡ false = sym c.is_lent.ensures ∙ c.if-is_lent.false in
    (rw none, tt)
