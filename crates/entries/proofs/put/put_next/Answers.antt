-- `entries::put::put_next` meets its contract: the store is the one that is ahead, so it turns what limit k leaves into what limit k + 1 leaves.
use mathlib.Core.Path.{sym, ap, ◌∙◌}
use Prim.Native.Nat.{◌-◌}
use native.Mathlib.Omega.{arith}
use Rattle.shapes.proofs.Order.{next_made}
use Rattle.shapes.proofs.RunLaws.{run_one}
use Rattle.shapes.specs.Run.{all_made}
use Rattle.table.specs.Stored.{store_of}
use Rattle.entries.proofs.put.put_next.Goals as goal

pub returns : goal.returns
returns c =
    let a = c.args in
    let sets = c.store_word.ensures in (
      ap (all_made (record { more = a.left.more - 1; last = a.at })) sets ∙ sym (run_one a.left (store_of a.at a.word) a.words.now (omega arith)),
      next_made (store_of a.at a.word) c.requires.2 sets,
    )
