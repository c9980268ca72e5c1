-- `apart::crowd::in_pieces` meets its contract: the lowest bit that is set is that of the first crowded piece, and of it the first page.
use mathlib.Core.Path.{◌≡◌, sym, ap, ◌∙◌}
use mathlib.Core.Bool.{Bool}
use Prim.Native.Nat.{ℕ, ◌+◌, ◌*◌, ◌/◌, ◌<◌}
use native.Mathlib.Omega.{arith}
use lib.Dec.{eqb}
use Rattle.model.specs.Layout.{block_pages}
use Rattle.laws.proofs.Choices.{and_when}
use Rattle.sharing.specs.Crowds.{is_crowd}
use Rattle.sharing.specs.First.{First}
use Rattle.sharing.specs.Masks.{bit, Counted}
use Rattle.sharing.proofs.MaskLaws.{no_lane, first_lane}
use Rattle.table.specs.Board.{PIECES, PIECE-PAGES}
use Rattle.apart.proofs.EachBits.{piece_lane, piece_low}
use Rattle.apart.proofs.crowd.in_pieces.Goals as goal
use Rattle.apart.proofs.crowd.in_pieces.Goals.{After-crowds-found}

-- from pieces to pages
by_pages : (test : ℕ → Bool) (j : ℕ) → First test 0 PIECES j → First (λ q. test (q / PIECE-PAGES)) 0 block_pages (j * PIECE-PAGES)
by_pages test j f =
    record {
      within = omega (arith, f.within);
      passes = λ h. let e : (0 + j * PIECE-PAGES) / PIECE-PAGES ≡ 0 + j = omega arith in ap test e ∙ f.passes (omega arith);
      before = λ k h. let e : (0 + k) / PIECE-PAGES ≡ 0 + k / PIECE-PAGES = omega arith in ap test e ∙ f.before (k / PIECE-PAGES) (omega arith);
    }

low : (c : After-crowds-found) → let a = c.args in
    (opened reached : ℕ → ℕ) → ((j : ℕ) → j < PIECES → Counted a.even (2 * j) (opened j) (reached j)) → (j : ℕ) → j < PIECES
    → bit c.crowds-found.result (2 * j) ≡ is_crowd (opened (0 + j)) (reached (0 + j))
low c opened reached h j u =
    let e : 0 + j ≡ j = omega arith in
    c.crowds-found.ensures.1 (2 * j) _ _ (h j u) ∙ and_when _ _ (piece_low j u) ∙ ap (λ (k : ℕ). is_crowd (opened k) (reached k)) (sym e)

pub returns-then-found-eq0 : goal.returns-then-found-eq0
returns-then-found-eq0 c = λ opened reached h. by_pages (λ j. is_crowd (opened j) (reached j)) PIECES (no_lane 2 PIECES c.crowds-found.result 0 _ (low (goal.at.returns-then-found-eq0 c).After-crowds-found opened reached h) c.if-found-eq0.true)

pub returns : goal.returns
unfolding bit
returns c =
    let r = c.lowest_bit.result in
    let lane = piece_lane r c.lowest_bit.ensures.within (c.crowds-found.ensures.0 r (ap (λ (x : ℕ). eqb x 1) c.lowest_bit.ensures.is_set)) in
    λ opened reached h. (
      omega (arith, lane.1),
      by_pages (λ j. is_crowd (opened j) (reached j)) (r / 2) (first_lane 2 PIECES c.crowds-found.result 0 _ (low (goal.at.returns c).After-crowds-found opened reached h) r (r / 2) (omega (arith, lane.0)) lane.1
          (ap (λ (x : ℕ). eqb x 1) c.lowest_bit.ensures.is_set) (λ j u. ap (λ (x : ℕ). eqb x 1) (c.lowest_bit.ensures.below j u)) (λ j u. omega arith)),
    )
