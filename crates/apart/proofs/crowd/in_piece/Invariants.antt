-- `apart::crowd::in_piece` meets its contract: the invariant: no page of the entries passed is crowded.
use Prim.Native.Nat.{ℕ, ◌*◌, ◌<◌}
use lib.ListN.{length}
use Rattle.sharing.specs.Crowds.{full_at}
use Rattle.sharing.specs.Masks.{Counted}
use Rattle.sharing.proofs.FirstLaws.{NoneOf}
use Rattle.table.specs.Board.{board, FIELDS}
use Rattle.types.specs.Views.{strength_of}
use Rattle.apart.proofs.crowd.in_piece.Given as goal

abbrev pub invariant-loop-k : goal.invariant-loop-k
invariant-loop-k l =
    (n d : ℕ) → ((i : ℕ) → i < FIELDS → Counted l.base (4 * i) n d) → NoneOf (full_at board l.words l.tables (strength_of l.s) (length l.tables) n d) (l.first * FIELDS) (l.k * FIELDS)
