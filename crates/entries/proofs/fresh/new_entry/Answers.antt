-- `entries::fresh::new_entry` meets its contract: the word is that of the entry, and its store is the next one.
use borrow.Author.Rules.{rules}
use Rattle.table.specs.Board.{frame_of}
use Rattle.shapes.proofs.Places.{next_store, stored}
use Rattle.entries.proofs.fresh.new_entry.Goals as goal

pub put-requires : goal.put-requires
put-requires c =
    let a = c.args in
    (search rules, next_store (frame_of a.edit.f a.words.now) a.new.page.0 a.i _ c.page_at.ensures.0 a.words.now c.after_word-word.ensures c.requires.3)

pub returns : goal.returns
returns c =
    let a = c.args in
    stored (frame_of a.edit.f a.words.now) a.new.page.0 a.i _ c.page_at.ensures.0 a.words.now c.after_word-word.ensures a.left c.put.ensures
