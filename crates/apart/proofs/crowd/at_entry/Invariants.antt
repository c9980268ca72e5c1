-- `apart::crowd::at_entry` meets its contract: the invariant: after t of the L1 pages, what the first t of them say is counted.
use Prim.Native.Nat.{ℕ, ◌+◌, ◌*◌, ◌<◌}
use Rattle.sharing.specs.Crowds.{table_opens, table_reaches}
use Rattle.sharing.specs.Masks.{Counted}
use Rattle.table.specs.Board.{board, FIELDS}
use Rattle.types.specs.Views.{strength_of}
use Rattle.apart.proofs.crowd.at_entry.Given as goal

abbrev pub invariant-loop-at : goal.invariant-loop-at
invariant-loop-at l =
    (i n d : ℕ) → i < FIELDS → Counted l.initial.all (4 * i) n d
    → Counted l.all (4 * i) (n + table_opens board l.words l.tables l.at-index (l.k * FIELDS + i)) (d + table_reaches board l.words l.tables (strength_of l.s) l.at-index (l.k * FIELDS + i))
