-- `entries::link::link_page` meets its contract: the word names the page, and its store is the next one.
use borrow.Author.Rules.{rules}
use Rattle.table.specs.Board.{frame_of}
use Rattle.shapes.proofs.Places.{next_store, stored}
use Rattle.model.specs.Entry.{encode}
use Rattle.model.specs.Stores.{store_l2}
use Rattle.model.specs.Walk.{entry_page, entry_place}
use Rattle.entries.proofs.link.link_page.Goals as goal

pub put-requires : goal.put-requires
unfolding encode store_l2 entry_page entry_place
put-requires c =
    let a = c.args in
    (search rules, next_store (frame_of a.edit.f a.words.now) a.edit.root.0 a.new.block.b _ c.page_at.ensures.0 a.words.now c.narrow.ensures c.requires.2)

pub returns : goal.returns
unfolding encode store_l2 entry_page entry_place
returns c =
    let a = c.args in
    stored (frame_of a.edit.f a.words.now) a.edit.root.0 a.new.block.b _ c.page_at.ensures.0 a.words.now c.narrow.ensures a.left c.put.ensures
