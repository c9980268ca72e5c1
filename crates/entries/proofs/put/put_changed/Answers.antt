-- `entries::put::put_changed` meets its contract: a word that does not change has no store in the list.
use Rattle.std.specs.Prelude.{if◌then◌else◌}
use mathlib.Core.Path.{◌≡◌, sym, ap, ◌∙◌}
use mathlib.Core.List.{List, [], ◌∷◌}
use lib.Dec.{eqb}
use lib.ListN.{get_or}
use borrow.Author.Tests.{eq-eqb}
use Rattle.model.specs.Stores.{Store}
use Rattle.table.specs.Stored.{store_of}
use Rattle.shapes.specs.Run.{run}
use Rattle.shapes.proofs.RunLaws.{run_none}
use Rattle.entries.proofs.put.put_changed.Goals as goal

pub returns-then-words-at : goal.returns-then-words-at
returns-then-words-at c =
    let a = c.args in
    let same : get_or a.words.now a.at 0 ≡ a.word = c.if-words-at.true in
    let none : (if eqb (get_or a.words.now a.at 0) a.word then [] else store_of a.at a.word ∷ []) ≡ [] = rw (eq-eqb _ _ same) in
    sym (ap (λ (ss : List Store). run a.left ss a.words.now) none ∙ run_none a.left a.words.now)
