-- The call that tests a table answers `apart` exactly where the premises hold (`test_gives`, `test_passes`). It goes by slot number and gives
-- the first fault; the premises go by register. An answer of `apart` is a list of faults that is empty, since no fault is called `apart`; and
-- two open slots of a sound table have two registers, since they have two SDIDs.
use Rattle.std.specs.Prelude.{if◌then◌else◌}
use mathlib.Core.Path.{◌≡◌, refl, sym, ap, ap₂, ◌∙◌, subst}
use mathlib.Core.Bool.{Bool, true, false, not, ◌&&◌, ◌||◌, true≢false, false≢true}
use mathlib.Core.Logic.{◌≢◌}
use mathlib.Core.List.{List, [], ◌∷◌, ◌++◌, head_d, cons≢nil}
use Prim.Native.Nat.{ℕ, zero, suc, ◌+◌, ◌≤◌, ◌<◌}
use native.Mathlib.Omega.{arith}
use lib.Dec.{eqb, ltb}
use lib.ListN.{length}
use borrow.Author.Tests.{eqb-true, eqb-false, ltb-true, ltb-false, lt-ltb}
use Rattle.model.specs.Numbers.{each, distinct, joined}
use Rattle.model.specs.Layout.{slot_count}
use Rattle.model.specs.Register.{ppn_of, sdid_of}
use Rattle.model.specs.Frame.{Frame, space, frame_ok}
use Rattle.model.specs.Sound.{Slot, is_open, open_registers, roots, sdids, sound, sound_register, sound_slots, sound_table}
use Rattle.model.specs.Calls.{first_met, slot_at}
use Rattle.model.specs.Apart.{grants, grants_any, Strength, strict, sharing, Separation, refused_apart, apart, table_open, page_shared, opens, reaches, table_page, by_slot, table_fault, pair_fault, faults_at, separation, apart_refusal, apart_answer}
use Rattle.model.specs.Demands.{Domain}
use Rattle.laws.proofs.Choices.{split, and_true, or_left, not-false-true}
use Rattle.laws.proofs.Lists.{joined_none}
use Rattle.laws.proofs.Times.{distinct_times}
use Rattle.theory.proofs.Accepts.{first_none}
use Rattle.theory.proofs.Domains.{open_domain}
use Rattle.theory.proofs.Walks.{outside_space}
use Rattle.isolation.specs.Neighbours.{Apart}
use Rattle.isolation.proofs.Slots.{slot_of, counted_twice}
use Rattle.isolation.proofs.Steps.{never_true, reaches_open}

-- ---- no fault is called `apart`

unfoldable is_apart : Separation → Bool
is_apart (refused_apart n) = false
is_apart apart = true
is_apart (table_open page i w) = false
is_apart (page_shared page i j w) = false

-- a list whose first is not `apart`, if it has one
abbrev Faults : List Separation → Type 0
Faults l = head_d l apart ≡ apart → l ≡ []

fault_if : (b : Bool) (x : Separation) → is_apart x ≡ false → Faults (if b then x ∷ [] else [])
unfolding head_d is_apart
fault_if true x n h = absurd (false≢true (sym n ∙ ap is_apart h))
fault_if false x n h = refl

faults_append : (l l' : List Separation) → Faults l → Faults l' → Faults (l ++ l')
unfolding head_d
faults_append [] l' f f' h = f' h
faults_append (x ∷ l) l' f f' h = absurd (cons≢nil (f h))

faults_joined : (g : ℕ → List Separation) (n s : ℕ) → ((k : ℕ) → Faults (g k)) → Faults (joined g n s)
unfolding joined
faults_joined g zero s f h = refl
faults_joined g (suc n) s f h = faults_append (g s) (joined g n (suc s)) (f s) (faults_joined g n (suc s) f) h

-- ---- a joined list that is empty

none_append : (l l' : List Separation) → l ++ l' ≡ [] → (l ≡ []) × (l' ≡ [])
none_append [] l' h = (refl, h)
none_append (x ∷ l) l' h = absurd (cons≢nil h)

none_joined : (g : ℕ → List Separation) (n s : ℕ) → joined g n s ≡ [] → (k : ℕ) → s ≤ k → k < s + n → g k ≡ []
unfolding joined
none_joined g zero s h k l u = absurd (omega arith)
none_joined g (suc n) s h k l u =
    let both = none_append (g s) (joined g n (suc s)) h in
    split (eqb s k)
    (λ z. subst (λ (i : ℕ). g i ≡ []) (eqb-true s k z) both.0)
    (λ z. let ne = eqb-false s k z in none_joined g n (suc s) both.1 k (omega arith) (omega arith))

if_none : (b : Bool) (x : Separation) → (b ≡ true → ⊥) → (if b then x ∷ [] else []) ≡ []
if_none true x h = absurd (h refl)
if_none false x h = refl

-- the premises of strict are the stronger ones
pub strict_stronger : (F : Frame) (m : List ℕ) (slots : List Slot) → Apart F slots strict m → Apart F slots sharing m
unfolding reaches
strict_stronger F m slots a =
    record {
      frame = a.frame;
      sounds = a.sounds;
      pages = λ r r' page d d' ne o.
          never_true (reaches F m sharing r' page) (λ w. true≢false (sym (reaches_open F m sharing r' page w) ∙ a.pages r r' page d d' ne o));
      table = λ r page d t. never_true (reaches F m sharing r page) (λ w. true≢false (sym (reaches_open F m sharing r page w) ∙ a.table r page d t));
    }

module _ (F : Frame) (m : List ℕ) (slots : List Slot) (s : Strength) where
  -- no page past the address space is open
  pub open_inside : (r page : ℕ) → opens F m r page ≡ true → page < space F
  unfolding opens grants_any grants
  open_inside r page h =
      split (ltb page (space F)) (ltb-true page (space F))
      (λ q. absurd (false≢true (sym (ap grants_any (outside_space F m (ppn_of F.layout r) page (ltb-false page (space F) q))) ∙ h)))

  abbrev opened : ℕ → ℕ → Bool
  opened i page = by_slot F m slots (opens F m) i page

  abbrev reached : ℕ → ℕ → Bool
  reached i page = by_slot F m slots (reaches F m s) i page

  -- the tests of the two faults
  abbrev table_test : ℕ → ℕ → Bool
  table_test page i = table_page F m slots page && reached i page

  abbrev pair_test : ℕ → ℕ → ℕ → Bool
  pair_test page i j = opened i page && reached j page || reached i page && opened j page

  abbrev pair_faults : ℕ → ℕ → List Separation
  pair_faults page i = joined (pair_fault F m slots s page i) slot_count 0

  -- what a slot has its domain has
  slot_has : (has : ℕ → ℕ → Bool) (i page : ℕ) → by_slot F m slots has i page ≡ true → Domain F slots (slot_at slots i) × (has (slot_at slots i) page ≡ true)
  unfolding by_slot slot_at
  slot_has has i page h =
      let both = and_true (is_open (slot_at slots i)) (has (slot_at slots i) page) h in (open_domain slots i both.0, both.1)

  domain_has : (has : ℕ → ℕ → Bool) (i r page : ℕ) → slot_at slots i ≡ r → is_open r ≡ true → has r page ≡ true → by_slot F m slots has i page ≡ true
  unfolding by_slot
  domain_has has i r page e o h = rw (e, o) h

  -- ---- from the answer to the premises

  -- what is against the premises is a fault: a table page that is reached; a page that the higher of two slots reaches, or the lower
  table_found : (page i : ℕ) → table_page F m slots page ≡ true → reached i page ≡ true → table_fault F m slots s page i ≢ []
  unfolding table_fault
  table_found page i t w h = cons≢nil (rw (t, w) at h)

  higher_found : (page i j : ℕ) → i < j → opened i page ≡ true → reached j page ≡ true → pair_fault F m slots s page i j ≢ []
  unfolding pair_fault
  higher_found page i j l o w h = cons≢nil (rw (lt-ltb i j l, o, w) at h)

  lower_found : (page i j : ℕ) → i < j → reached i page ≡ true → opened j page ≡ true → pair_fault F m slots s page i j ≢ []
  unfolding pair_fault
  lower_found page i j l w o h =
      split (opened i page && reached j page) (λ z. cons≢nil (rw (lt-ltb i j l, z) at h)) (λ z. cons≢nil (rw (lt-ltb i j l, z, w, o) at h))

  faults_at_lem : (page : ℕ) → Faults (faults_at F m slots s page)
  unfolding faults_at table_fault pair_fault is_apart
  faults_at_lem page =
      faults_append (joined (table_fault F m slots s page) slot_count 0) (joined (pair_faults page) slot_count 0)
      (faults_joined (table_fault F m slots s page) slot_count 0 (λ i. fault_if (table_test page i) _ refl))
      (faults_joined (pair_faults page) slot_count 0
      (λ i. faults_joined (pair_fault F m slots s page i) slot_count 0 (λ j. fault_if (ltb i j && pair_test page i j) _ refl)))

  accepts : apart_answer F m slots s ≡ apart → (frame_ok F m ≡ true) × (sound F m slots ≡ true) × (separation F m slots s ≡ apart)
  unfolding apart_answer apart_refusal is_apart
  accepts h =
      split (eqb (apart_refusal F m slots) 0)
      (λ z.
      let one = first_none 0 (not (frame_ok F m)) ((3, not (sound F m slots)) ∷ []) (eqb-true (apart_refusal F m slots) 0 z) in
      let three = first_none 2 (not (sound F m slots)) [] one.1 in
      (not-false-true (frame_ok F m) one.0, not-false-true (sound F m slots) three.0, rw z at h))
      (λ z. absurd (false≢true (ap is_apart (rw z at h))))

  module _ (h : separation F m slots s ≡ apart) (page : ℕ) (inside : page < space F) where
    none_at : (joined (table_fault F m slots s page) slot_count 0 ≡ []) × (joined (pair_faults page) slot_count 0 ≡ [])
    unfolding separation faults_at
    none_at =
        none_append (joined (table_fault F m slots s page) slot_count 0) (joined (pair_faults page) slot_count 0)
        (none_joined (faults_at F m slots s) _ 0 (faults_joined (faults_at F m slots s) _ 0 faults_at_lem h) page (omega arith) (omega arith))

    no_table_lem : (i : ℕ) → i < slot_count → table_fault F m slots s page i ≡ []
    no_table_lem i u = none_joined (table_fault F m slots s page) slot_count 0 none_at.0 i (omega arith) (omega arith)

    no_pair : (i j : ℕ) → i < j → j < slot_count → pair_fault F m slots s page i j ≡ []
    no_pair i j l u =
        let none = none_joined (pair_faults page) slot_count 0 none_at.1 i (omega arith) (omega arith) in
        none_joined (pair_fault F m slots s page i) slot_count 0 none j (omega arith) (omega arith)

  module _ (eight : length slots ≡ slot_count) where
    pub test_gives : apart_answer F m slots s ≡ apart → Apart F slots s m
    test_gives h =
        let given = accepts h in
        record {
          frame = given.0;
          sounds = given.1;
          pages = λ r r' page d d' ne o.
              never_true (reaches F m s r' page)
              (λ w.
              let (i, low, e, live) = slot_of slots r d in
              let (j, low', e', live') = slot_of slots r' d' in
              let x = domain_has (opens F m) i r page e live o in
              let y = domain_has (reaches F m s) j r' page e' live' w in
              let none = no_pair given.2 page (open_inside r page o) in
              split (ltb i j)
              (λ z. higher_found page i j (ltb-true i j z) x y (none i j (ltb-true i j z) (omega (arith, eight))))
              (λ z. split (ltb j i)
              (λ z'. lower_found page j i (ltb-true j i z') y x (none j i (ltb-true j i z') (omega (arith, eight))))
              (λ z'. let same : i ≡ j = omega (arith, ltb-false i j z, ltb-false j i z') in ne (sym e ∙ ap (slot_at slots) same ∙ e'))));
          table = λ r page d t.
              never_true (reaches F m s r page)
              (λ w.
              let (i, low, e, live) = slot_of slots r d in
              let inside = open_inside r page (reaches_open F m s r page w) in
              table_found page i t (domain_has (reaches F m s) i r page e live w) (no_table_lem given.2 page inside i (omega (arith, eight))));
        }

  -- ---- and back

  module _ (a : Apart F slots s m) where
    -- two open slots have two SDIDs, and so two registers
    two_registers : (i j : ℕ) → i < j → Domain F slots (slot_at slots i) → slot_at slots i ≢ slot_at slots j
    unfolding sound sound_slots sdids
    two_registers i j l d e =
        let slotsSound = (and_true (sound_slots F slots) (sound_table F m (roots F slots)) a.sounds).0 in
        let apartSdids = (and_true (each (sound_register F) (open_registers slots)) (distinct (sdids F slots)) slotsSound).1 in
        let twice = counted_twice (sdid_of F.layout) slots i j l (slot_of slots (slot_at slots i) d).3 e in
        omega (arith, twice, distinct_times (sdids F slots) apartSdids (sdid_of F.layout (slot_at slots i)))

    -- a page that one slot of two reaches and that is open to the other
    apart_slots : (page i j : ℕ) → slot_at slots i ≢ slot_at slots j → opened i page ≡ true → reached j page ≡ true → ⊥
    apart_slots page i j ne o w =
        let x = slot_has (opens F m) i page o in
        let y = slot_has (reaches F m s) j page w in
        true≢false (sym y.1 ∙ a.pages (slot_at slots i) (slot_at slots j) page x.0 y.0 ne x.1)

    table_none : (page i : ℕ) → table_fault F m slots s page i ≡ []
    unfolding table_fault
    table_none page i =
        if_none (table_test page i) _
        (λ h.
        let both = and_true (table_page F m slots page) (reached i page) h in
        let x = slot_has (reaches F m s) i page both.1 in
        true≢false (sym x.1 ∙ a.table (slot_at slots i) page x.0 both.0))

    pair_none : (page i j : ℕ) → pair_fault F m slots s page i j ≡ []
    unfolding pair_fault
    pair_none page i j =
        if_none (ltb i j && pair_test page i j) _
        (λ h.
        let both = and_true (ltb i j) (pair_test page i j) h in
        split (opened i page && reached j page)
        (λ z. let (o, w) = and_true (opened i page) (reached j page) z in
        apart_slots page i j (two_registers i j (ltb-true i j both.0) (slot_has (opens F m) i page o).0) o w)
        (λ z. let (w, o) = and_true (reached i page) (opened j page) (or_left (opened i page && reached j page) (reached i page && opened j page) both.1 z) in
        apart_slots page j i (λ e. two_registers i j (ltb-true i j both.0) (slot_has (reaches F m s) i page w).0 (sym e)) o w))

    none_found : (page : ℕ) → faults_at F m slots s page ≡ []
    unfolding faults_at
    none_found page =
        ap₂ (λ (l l' : List Separation). l ++ l')
        (joined_none (table_fault F m slots s page) slot_count 0 (λ i low high. table_none page i))
        (joined_none (pair_faults page) slot_count 0 (λ i low high. joined_none (pair_fault F m slots s page i) slot_count 0 (λ j low' high'. pair_none page i j)))

    pub test_passes : apart_answer F m slots s ≡ apart
    unfolding apart_answer apart_refusal first_met separation head_d
    test_passes =
        rw (a.frame, a.sounds) (ap (λ (l : List Separation). head_d l apart) (joined_none (faults_at F m slots s) (space F) 0 (λ page low high. none_found page)))
