-- `apart::crowd::in_tables` meets its contract: the invariant: no page of the pieces passed is crowded.
use mathlib.Core.Bool.{Bool}
use mathlib.Core.List.{List}
use Prim.Native.Nat.{ℕ, ◌*◌, ◌/◌, ◌<◌}
use lib.ListN.{length}
use Rattle.model.specs.Apart.{Strength}
use Rattle.sharing.specs.Crowds.{full_at}
use Rattle.sharing.specs.Masks.{Counted}
use Rattle.sharing.proofs.FirstLaws.{NoneOf}
use Rattle.table.specs.Board.{board, PIECES, PIECE-PAGES}
use Rattle.types.specs.Views.{strength_of}
use Rattle.apart.proofs.crowd.in_tables.Given as goal

-- by the piece that a page lies in
abbrev pub test : List ℕ → List ℕ → Strength → ℕ → (ℕ → ℕ) → (ℕ → ℕ) → ℕ → Bool
test words tables s count opened reached q = full_at board words tables s count (opened (q / PIECE-PAGES)) (reached (q / PIECE-PAGES)) q

abbrev pub invariant-loop-i : goal.invariant-loop-i
invariant-loop-i l =
    (opened reached : ℕ → ℕ) → ((j : ℕ) → j < PIECES → Counted l.even (2 * j) (opened j) (reached j))
    → NoneOf (test l.words l.tables (strength_of l.s) (length l.tables) opened reached) 0 (l.i * PIECE-PAGES)
