-- `entries::own::same_entry` meets its contract: the word is that of the entry, and its store, if it changes, is the next one.
use borrow.Author.Rules.{rules}
use Rattle.table.specs.Board.{frame_of}
use Rattle.shapes.proofs.Places.{next_if, stored_if}
use Rattle.entries.proofs.own.same_entry.Goals as goal

pub put_changed-requires : goal.put_changed-requires
put_changed-requires c =
    let a = c.args in
    (search rules, next_if (frame_of a.edit.f a.words.now) a.t.0 a.i _ c.page_at.ensures.0 a.words.now c.after_word-word.ensures c.requires.3)

pub returns : goal.returns
returns c =
    let a = c.args in
    stored_if (frame_of a.edit.f a.words.now) a.t.0 a.i _ c.page_at.ensures.0 a.words.now c.after_word-word.ensures a.left c.put_changed.ensures
