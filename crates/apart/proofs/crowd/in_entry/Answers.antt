-- `apart::crowd::in_entry` meets its contract: the lowest bit that is set is that of the first crowded field.
use mathlib.Core.Path.{◌≡◌, ap, ◌∙◌}
use Prim.Native.Nat.{ℕ, ◌+◌, ◌*◌, ◌/◌, ◌<◌}
use native.Mathlib.Omega.{arith}
use lib.ListN.{length}
use lib.Dec.{eqb}
use Rattle.laws.proofs.Choices.{and_when}
use Rattle.sharing.specs.Crowds.{full_at}
use Rattle.sharing.specs.Masks.{bit, Counted}
use Rattle.sharing.proofs.MaskLaws.{no_lane, first_lane}
use Rattle.table.specs.Board.{board, FIELDS}
use Rattle.types.specs.Views.{strength_of}
use Rattle.apart.proofs.EachBits.{field_lane, field_low}
use Rattle.apart.proofs.crowd.in_entry.Goals as goal
use Rattle.apart.proofs.crowd.in_entry.Goals.{After-crowds-found}

-- the low bit of field i
low : (c : After-crowds-found) → let a = c.args in (n d : ℕ) → ((i : ℕ) → i < FIELDS → Counted a.base (4 * i) n d) → (i : ℕ) → i < FIELDS
    → bit c.crowds-found.result (4 * i) ≡ full_at board a.words.now a.tables.now (strength_of a.s) (length a.tables.now) n d (a.k * FIELDS + i)
low c n d h i u =
    c.crowds-found.ensures.1 (4 * i) _ _ (c.at_entry.ensures i n d u (h i u)) ∙ and_when _ _ (field_low i u)

pub returns-then-found-eq0 : goal.returns-then-found-eq0
returns-then-found-eq0 c = (tt, λ n d h. no_lane 4 FIELDS c.crowds-found.result _ _ (low (goal.at.returns-then-found-eq0 c).After-crowds-found n d h) c.if-found-eq0.true)

pub returns : goal.returns
unfolding bit
returns c =
    let r = c.lowest_bit.result in
    let lane = field_lane r c.lowest_bit.ensures.within (c.crowds-found.ensures.0 r (ap (λ (x : ℕ). eqb x 1) c.lowest_bit.ensures.is_set)) in (
      lane.1,
      λ n d h. (
        lane.1,
        first_lane 4 FIELDS c.crowds-found.result _ _ (low (goal.at.returns c).After-crowds-found n d h) r (r / 4) (omega (arith, lane.0)) lane.1
            (ap (λ (x : ℕ). eqb x 1) c.lowest_bit.ensures.is_set) (λ j u. ap (λ (x : ℕ). eqb x 1) (c.lowest_bit.ensures.below j u)) (λ j u. omega arith),
      ),
    )
