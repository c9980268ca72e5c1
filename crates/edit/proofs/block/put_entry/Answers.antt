-- `edit::block::put_entry` meets its contract: the word at the root's start and the block's number is the block's entry, so the store is the model's.
use Rattle.std.specs.Prelude.{if◌then◌else◌}
use mathlib.Core.Path.{◌≡◌, sym, ap, ◌∙◌}
use mathlib.Core.List.{List, [], ◌∷◌}
use Prim.Native.Nat.{◌+◌}
use borrow.Author.Rules.{rules}
use Rattle.shapes.proofs.BlockLaws.{changed_l2}
use Rattle.shapes.proofs.Order.{ahead_of}
use Rattle.shapes.specs.Run.{run}
use Rattle.shapes.proofs.Places.{place}
use lib.Dec.{eqb}
use lib.ListN.{get_or}
use Rattle.table.specs.Stored.{store_of}
use Rattle.model.specs.Stores.{Store, if_changed_l2}
use Rattle.table.specs.Board.{frame_of}
use Rattle.edit.proofs.block.put_entry.Goals as goal
use Rattle.edit.proofs.block.put_entry.Goals.{After-page_at}

-- the store that the code makes, if any
entry_store : (p : After-page_at) → let a = p.args in
    (if eqb (get_or a.words.now (p.page_at.result + a.b) 0) a.word then [] else store_of (p.page_at.result + a.b) a.word ∷ [])
    ≡ if_changed_l2 (frame_of a.edit.f a.words.now) a.words.now a.edit.root.0 a.b a.word
entry_store p =
    let a = p.args in
    let F = frame_of a.edit.f a.words.now in
    changed_l2 F a.words.now a.edit.root.0 a.b _ _ (place F a.edit.root.0 a.b _ p.page_at.ensures.0)

pub put_changed-requires : goal.put_changed-requires
put_changed-requires c = (search rules, ahead_of (sym (entry_store (goal.at.put_changed-requires c).After-page_at)) c.requires.2)

pub returns : goal.returns
returns c =
    let a = c.args in
    c.put_changed.ensures ∙ ap (λ (ss : List Store). run a.left ss a.words.now) (entry_store (goal.at.returns c).After-page_at)
