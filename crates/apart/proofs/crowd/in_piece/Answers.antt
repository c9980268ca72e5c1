-- `apart::crowd::in_piece` meets its contract: the invariant: no page of the entries passed is crowded.
use mathlib.Core.Path.{◌≡◌, subst}
use Prim.Native.Nat.{ℕ, ◌+◌, ◌*◌, ◌<◌}
use native.Mathlib.Omega.{arith}
use lib.ListN.{length}
use Rattle.sharing.specs.Crowds.{full_at}
use Rattle.sharing.specs.First.{FirstOf}
use Rattle.sharing.specs.Masks.{Counted}
use Rattle.sharing.proofs.FirstLaws.{none_at_all, none_next, found_after}
use Rattle.table.specs.Board.{board, FIELDS, PIECE-PAGES}
use Rattle.types.specs.Views.{strength_of}
use Rattle.apart.proofs.crowd.in_piece.Goals as goal
use Rattle.apart.proofs.crowd.in_piece.Goals.{After-in_entry}

-- the entry that is looked at begins where those passed end
here : (c : After-in_entry) → let a = c.args in
    (n d : ℕ) → ((i : ℕ) → i < FIELDS → Counted a.base (4 * i) n d)
    → FirstOf (full_at board a.words.now a.tables.now (strength_of a.s) (length a.tables.now) n d) (a.first * FIELDS + c.loop-k.k * FIELDS) FIELDS c.in_entry.result
here c n d h =
    let a = c.args in
    let e : (a.first + c.loop-k.k) * FIELDS ≡ a.first * FIELDS + c.loop-k.k * FIELDS = omega arith in
    subst (λ (x : ℕ). FirstOf (full_at board a.words.now a.tables.now (strength_of a.s) (length a.tables.now) n d) x FIELDS c.in_entry.result) e (c.in_entry.ensures.1 n d h)

pub overflow_add-result : goal.overflow_add-result
overflow_add-result c = omega (arith, c.in-Some.ensures.0)

pub returns-in-Some : goal.returns-in-Some
returns-in-Some c = (
  omega (arith, c.in-Some.ensures.0),
  λ n d h. found_after _ _ _ (c.loop-k.invariant n d h) FIELDS PIECE-PAGES _ (rw c.in-Some.is at (here (goal.at.returns-in-Some c).After-in_entry n d h)) (omega arith),
)

pub loop-k-preserved : goal.loop-k-preserved
loop-k-preserved c =
    let e : c.loop-k.k * FIELDS + FIELDS ≡ (c.loop-k.k + 1) * FIELDS = omega arith in
    λ n d h. rw e at (none_next _ _ _ (c.loop-k.invariant n d h) FIELDS (rw c.in_default.is at (here (goal.at.loop-k-preserved c).After-in_entry n d h)))

pub returns : goal.returns
returns c = let e : c.loop-k.k * FIELDS ≡ PIECE-PAGES = omega arith in (tt, λ n d h. none_at_all _ _ PIECE-PAGES (rw e at (c.loop-k.invariant n d h)))
