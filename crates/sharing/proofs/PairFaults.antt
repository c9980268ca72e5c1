-- Pages that two slots share: there are such two exactly if the page is crowded; and the first two, slot by slot.
use Rattle.std.specs.Prelude.{if◌then◌else◌}
use mathlib.Core.Path.{◌≡◌, refl, sym, ap, ap₂, ◌∙◌}
use mathlib.Core.Bool.{Bool, true, false, ◌&&◌, ◌||◌, true≢false, false≢true}
use mathlib.Core.List.{List, head_d}
use Prim.Native.Nat.{ℕ, ◌+◌, ◌≤◌, ◌<◌}
use native.Mathlib.Nat.{zero-add}
use native.Mathlib.Omega.{arith}
use lib.Dec.{eqb, ltb, leb}
use lib.ListN.{length}
use borrow.Author.Tests.{eqb-false, eq-eqb, ne_eqb, ltb-true, ltb-false, lt-ltb, le-leb, leb-true}
use Rattle.model.specs.Numbers.{joined}
use Rattle.model.specs.Layout.{slot_count}
use Rattle.model.specs.Entry.{perm}
use Rattle.model.specs.Frame.{Frame}
use Rattle.model.specs.Access.{write}
use Rattle.model.specs.Sound.{Slot}
use Rattle.model.specs.Calls.{slot_at}
use Rattle.model.specs.Apart.{Strength, Separation, apart, page_shared, grants, opens, reaches, by_slot, pair_fault}
use Rattle.laws.proofs.Choices.{split, and_true, and_both, or_true}
use Rattle.laws.proofs.Sums.{sum, sum_one, sum_two, sum_some, sum_change, joined_measure, length_measure}
use Rattle.sharing.specs.First.{First}
use Rattle.sharing.specs.Masks.{one}
use Rattle.sharing.specs.Crowds.{open_count, reach_count, crowded}
use Rattle.sharing.specs.Faults.{some, meet, slot_grants, pair_faults}
use Rattle.sharing.proofs.FaultLists.{some_long, long_some, some_if, head_if, joined_rest, joined_head}
use Rattle.sharing.proofs.SlotRights.{slot_opens, slot_writes, slot_reaches, reach_open}

module _ (F : Frame) (m : List ℕ) (slots : List Slot) (s : Strength) (page : ℕ) where
  abbrev o : ℕ → Bool
  o i = by_slot F m slots (opens F m) i page

  abbrev t : ℕ → Bool
  t i = by_slot F m slots (reaches F m s) i page

  abbrev both_ways : ℕ → ℕ → Bool
  both_ways i j = o i && t j || t i && o j

  pair_at : (i j : ℕ) → some (pair_fault F m slots s page i j) ≡ (ltb i j && both_ways i j)
  unfolding pair_fault
  pair_at i j = some_if (ltb i j && (by_slot F m slots (opens F m) i page && by_slot F m slots (reaches F m s) j page || by_slot F m slots (reaches F m s) i page && by_slot F m slots (opens F m) j page)) _

  -- by what the two may do
  pub pair_meets : (i j : ℕ) → some (pair_fault F m slots s page i j) ≡ (ltb i j && meet s (slot_grants F m (slot_at slots i) page) (slot_grants F m (slot_at slots j) page))
  pair_meets i j =
      pair_at i j
      ∙ ap (λ (b : Bool). ltb i j && b) (ap₂ (λ (a b : Bool). a || b)
      (ap₂ (λ (a b : Bool). a && b) (slot_opens F m slots i page) (slot_reaches F m slots j page s))
      (ap₂ (λ (a b : Bool). a && b) (slot_reaches F m slots i page s) (slot_opens F m slots j page)))

  reached_open : (i : ℕ) → t i ≡ true → o i ≡ true
  reached_open i h = slot_opens F m slots i page ∙ reach_open s (perm (slot_grants F m (slot_at slots i) page)) (sym (slot_reaches F m slots i page s) ∙ h)

  -- so many faults
  inner : (i : ℕ) → length (joined (pair_fault F m slots s page i) slot_count 0) ≡ sum (λ j. length (pair_fault F m slots s page i j)) slot_count 0
  inner i = joined_measure (λ l. length l) length_measure (pair_fault F m slots s page i) slot_count 0

  outer : length (pair_faults F m slots s page) ≡ sum (λ i. length (joined (pair_fault F m slots s page i) slot_count 0)) slot_count 0
  outer = joined_measure (λ l. length l) length_measure (λ i. joined (pair_fault F m slots s page i) slot_count 0) slot_count 0

  is_true : (b : Bool) → 0 < one b → b ≡ true
  is_true true h = refl
  is_true false h = absurd (omega arith)

  -- a pair at fault: the page is open to both, and one of them reaches it
  cross : (a b c d : Bool) → (a && b || c && d) ≡ true → (c ≡ true → a ≡ true) → (b ≡ true → d ≡ true) → (a ≡ true) × (d ≡ true) × (1 ≤ one b + one c)
  cross true true c d h f g = (refl, g refl, omega arith)
  cross true false true d h f g = (refl, h, omega arith)
  cross true false false d h f g = absurd (false≢true h)
  cross false b true d h f g = absurd (false≢true (f refl))
  cross false b false d h f g = absurd (false≢true h)

  pair_crowds : (i j : ℕ) → i < slot_count → j < slot_count → some (pair_fault F m slots s page i j) ≡ true → crowded F m slots s page ≡ true
  unfolding crowded
  pair_crowds i j u v h =
      let both = and_true (ltb i j) (both_ways i j) (sym (pair_at i j) ∙ h) in
      let l : i < j = ltb-true i j both.0 in
      let c = cross (o i) (t j) (t i) (o j) both.1 (reached_open i) (reached_open j) in
      let two = sum_two (λ k. one (o k)) i j slot_count 0 (λ z. omega (arith, z)) (omega arith) (omega arith) (omega arith) (omega arith) in
      let any = sum_two (λ k. one (t k)) i j slot_count 0 (λ z. omega (arith, z)) (omega arith) (omega arith) (omega arith) (omega arith) in
      and_both (le-leb 2 (open_count F m slots slot_count page) (omega (arith, two, ap one c.0, ap one c.1))) (le-leb 1 (reach_count F m slots s slot_count page) (omega (arith, any, c.2)))

  crowd_pairs : crowded F m slots s page ≡ true → (i : ℕ) × (j : ℕ) × (i < slot_count) × (j < slot_count) × (some (pair_fault F m slots s page i j) ≡ true)
  unfolding crowded
  crowd_pairs h =
      let both = and_true (leb 2 (open_count F m slots slot_count page)) (leb 1 (reach_count F m slots s slot_count page)) h in
      let b = sum_some (λ k. one (t k)) slot_count 0 (leb-true 1 (reach_count F m slots s slot_count page) both.1) in
      let tb : t b.0 ≡ true = is_true (t b.0) b.3 in
      let without : ℕ → ℕ = λ k. if eqb k b.0 then 0 else one (o k) in
      let changed = sum_change (λ k. one (o k)) without b.0 slot_count 0 (λ k lo hi ne. rw (ne_eqb k b.0 ne) refl) b.1 b.2 in
      let gone : without b.0 ≡ 0 = rw (eq-eqb b.0 b.0 refl) refl in
      let most : one (o b.0) ≤ 1 = at_most (o b.0) in
      let a = sum_some without slot_count 0 (omega (arith, leb-true 2 (open_count F m slots slot_count page) both.0, changed, gone, most)) in
      let ne : eqb a.0 b.0 ≡ false = not_same (eqb a.0 b.0) (one (o a.0)) a.3 in
      let oa : o a.0 ≡ true = is_true (o a.0) (rw ne at a.3) in
      split (ltb a.0 b.0)
      (λ z. (a.0, b.0, omega (arith, a.2), omega (arith, b.2), pair_at a.0 b.0 ∙ rw (z, oa, tb) refl))
      (λ z. (
        b.0,
        a.0,
        omega (arith, b.2),
        omega (arith, a.2),
        pair_at b.0 a.0
            ∙ and_both (lt-ltb b.0 a.0 (omega (arith, ltb-false a.0 b.0 z, eqb-false a.0 b.0 ne))) (rw (tb, oa) (or_true (o b.0 && t a.0))),
      ))
    where
      at_most : (x : Bool) → one x ≤ 1
      at_most true = omega arith
      at_most false = omega arith

      not_same : (x : Bool) (n : ℕ) → 0 < (if x then 0 else n) → x ≡ false
      not_same true n h = absurd (omega arith)
      not_same false n h = refl

  pub pairs_crowd : some (pair_faults F m slots s page) ≡ crowded F m slots s page
  pairs_crowd =
      split (crowded F m slots s page)
      (λ h. let p = crowd_pairs h in
      let here : 0 < length (pair_fault F m slots s page p.0 p.1) = some_long (pair_fault F m slots s page p.0 p.1) p.4 in
      let row : 0 < length (joined (pair_fault F m slots s page p.0) slot_count 0) = omega (arith, here, inner p.0, sum_one (λ j. length (pair_fault F m slots s page p.0 j)) p.1 slot_count 0 (omega arith) (omega (arith, p.3))) in
      long_some (pair_faults F m slots s page) (omega (arith, row, outer, sum_one (λ i. length (joined (pair_fault F m slots s page i) slot_count 0)) p.0 slot_count 0 (omega arith) (omega (arith, p.2)))) ∙ sym h)
      (λ h. split (some (pair_faults F m slots s page))
      (λ q. let i = sum_some (λ k. length (joined (pair_fault F m slots s page k) slot_count 0)) slot_count 0 (omega (arith, some_long (pair_faults F m slots s page) q, outer)) in
      let j = sum_some (λ k. length (pair_fault F m slots s page i.0 k)) slot_count 0 (omega (arith, i.3, inner i.0)) in
      absurd (true≢false (sym (pair_crowds i.0 j.0 (omega (arith, i.2)) (omega (arith, j.2)) (long_some (pair_fault F m slots s page i.0 j.0) j.3)) ∙ h)))
      (λ q. q ∙ sym h))

-- ---- slot by slot

module _ (F : Frame) (m : List ℕ) (slots : List Slot) (s : Strength) (page : ℕ) where
  -- the faults with slot i as the lower of two
  abbrev pub row : ℕ → List Separation
  row i = joined (pair_fault F m slots s page i) slot_count 0

  -- whether a slot may write the page
  abbrev pub may_write : ℕ → Bool
  may_write i = grants (perm (slot_grants F m (slot_at slots i) page)) write

  pair_head : (i j : ℕ) → some (pair_fault F m slots s page i j) ≡ true → head_d (pair_fault F m slots s page i j) apart ≡ page_shared page i j (may_write i || may_write j)
  unfolding pair_fault
  pair_head i j h = head_if (ltb i j && both_ways F m slots s page i j) _ h ∙ ap₂ (λ (a b : Bool). page_shared page i j (a || b)) (slot_writes F m slots i page) (slot_writes F m slots j page)

  abbrev partner : ℕ → ℕ → Bool
  partner i k = some (pair_fault F m slots s page i k)

  pub row_some : (i j : ℕ) → j < slot_count → First (partner i) 0 slot_count j → (some (row i) ≡ true) × (head_d (row i) apart ≡ page_shared page i j (may_write i || may_write j))
  row_some i j u first =
      let head = joined_head (pair_fault F m slots s page i) slot_count j first u apart in
      (head.0, head.1 ∙ pair_head i j (ap (partner i) (sym (zero-add j)) ∙ first.passes u))

  pub row_none : (i : ℕ) → First (partner i) 0 slot_count slot_count → some (row i) ≡ false
  row_none i first = ap some (joined_rest (pair_fault F m slots s page i) slot_count slot_count first (omega arith))

  pub rows_head : (i : ℕ) → First (λ k. some (row k)) 0 slot_count i → i < slot_count → head_d (pair_faults F m slots s page) apart ≡ head_d (row i) apart
  rows_head i first u = (joined_head row slot_count i first u apart).1

  pub rows_none : First (λ k. some (row k)) 0 slot_count slot_count → head_d (pair_faults F m slots s page) apart ≡ apart
  unfolding head_d
  rows_none first = ap (λ (l : List Separation). head_d l apart) (joined_rest row slot_count slot_count first (omega arith))
