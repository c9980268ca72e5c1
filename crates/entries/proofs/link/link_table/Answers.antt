-- `entries::link::link_table` meets its contract: the list is the page's entries and then the link, so once the page is filled the link is what is
-- left.
use mathlib.Core.Path.{◌≡◌, sym, ap, ◌∙◌}
use mathlib.Core.List.{List, [], ◌∷◌, ◌++◌}
use Prim.Native.Nat.{ℕ}
use lib.ListN.{length}
use borrow.Author.Rules.{rules}
use Rattle.model.specs.Entry.{table, encode}
use Rattle.model.specs.Frame.{Frame}
use Rattle.model.specs.Stores.{Store, store_l2, new_table, link_table}
use Rattle.shapes.specs.Ahead.{Ahead}
use Rattle.shapes.specs.Run.{run}
use Rattle.shapes.proofs.Order.{ahead_of, ahead_first, ahead_run}
use Rattle.shapes.proofs.Places.{lent_same}
use Rattle.shapes.proofs.RunLaws.{run_on, run_off}
use Rattle.table.specs.Board.{board, frame_of, frame_over}
use Rattle.types.specs.Views.{entry_of, request_of}
use Rattle.types.specs.declared.Edit.{Edit}
use Rattle.entries.specs.declared.new_page.NewPage.{NewPage}
use Rattle.entries.proofs.link.link_table.Goals as goal

-- the page's entries, and the link, which is the same in a memory of the same length
abbrev page : Edit → List ℕ → NewPage → List Store
page edit m new = new_table (frame_of edit.f m) m (request_of edit.q) (entry_of new.block.e) new.block.b new.page.0

abbrev link : Edit → List ℕ → NewPage → List Store
link edit m new = store_l2 (frame_of edit.f m) edit.root.0 new.block.b (encode board (table new.page.0)) ∷ []

link_same : (edit : Edit) (m m' : List ℕ) (new : NewPage) → length m' ≡ length m → link edit m' new ≡ link edit m new
link_same edit m m' new len = ap (λ (X : Frame). store_l2 X edit.root.0 new.block.b (encode board (table new.page.0)) ∷ []) (ap (frame_over edit.f) len)

parts : (edit : Edit) (m : List ℕ) (new : NewPage) → Ahead m (link_table (frame_of edit.f m) m (request_of edit.q) edit.root.0 (entry_of new.block.e) new.block.b new.page.0)
    → Ahead m (page edit m new ++ link edit m new)
unfolding link_table
parts edit m new next = next

-- The page's entries come first in the list,
-- and its first store is the next one of the edit.
pub fill_page-requires : goal.fill_page-requires
fill_page-requires c =
    let a = c.args in
    let next : Ahead a.words.now (page a.edit a.words.now a.new) = ahead_first _ (link a.edit a.words.now a.new) (parts a.edit a.words.now a.new c.requires.4) in
    search rules

pub returns-in_err-filled : goal.returns-in_err-filled
unfolding link_table
returns-in_err-filled c =
    let a = c.args in
    rw c.from_residual.ensures (sym (run_off a.left (page a.edit a.words.now a.new) a.words.now c.in_err-filled.ensures (link a.edit a.words.now a.new)))

-- what the link asks holds still after the page is filled
pub link_page-requires : goal.link_page-requires
link_page-requires c =
    let a = c.args in
    let r = c.fill_page in (
      lent_same (frame_over a.edit.f) a.words.now r.new.words r.auto.words a.edit.root.0 c.requires.2,
      c.requires.3,
      ahead_of (sym (link_same a.edit a.words.now r.new.words a.new r.auto.words))
          (ahead_run a.left (page a.edit a.words.now a.new) (link a.edit a.words.now a.new) (parts a.edit a.words.now a.new c.requires.4) c.in_ok-filled.ensures),
    )

pub returns : goal.returns
unfolding link_table
returns c =
    let a = c.args in
    let r = c.fill_page in
    c.link_page.ensures
    ∙ ap (λ (ss : List Store). run c.in_ok-filled.filled ss r.new.words) (link_same a.edit a.words.now r.new.words a.new r.auto.words)
    ∙ sym (run_on a.left (page a.edit a.words.now a.new) a.words.now c.in_ok-filled.ensures (link a.edit a.words.now a.new))
