-- A row of neighbouring words: a store of one of them keeps the others, so that those before place i are done and those from there on stand
-- as they were; and a row that changes throughout is stored whole.
use Rattle.std.specs.Prelude.{if◌then◌else◌, Option, Some, None}
use mathlib.Core.Path.{◌≡◌, refl, sym, ap, ap₂, ◌∙◌, subst}
use mathlib.Core.Bool.{true}
use mathlib.Core.List.{List, [], ◌∷◌, ◌++◌, append-nil}
use Prim.Native.Nat.{ℕ, ◌+◌, ◌-◌, ◌≤◌, ◌<◌}
use native.Mathlib.Omega.{arith}
use lib.Dec.{eqb}
use lib.ListN.{length, get_or, length-set}
use lib.Seq.{get_or-set_other}
use borrow.Author.Tests.{eqb-true, eqb-false}
use Rattle.laws.proofs.Choices.{split, not-true-false}
use Rattle.laws.proofs.Every.{every_in}
use Rattle.laws.proofs.Lists.{joined_append, joined_cong}
use Rattle.model.specs.Numbers.{every, joined}
use Rattle.model.specs.Stores.{Store, apply}
use Rattle.types.specs.declared.Budget.{Budget}
use Rattle.shapes.specs.Ahead.{Ahead}
use Rattle.shapes.specs.Rows.{change_at, row_stores, fill_stores, differs}
use Rattle.shapes.specs.Run.{Out, all_made, limit_reached, out, run}
use Rattle.shapes.proofs.Order.{ahead_of, ahead_joined}
use Rattle.shapes.proofs.RunLaws.{run_none, run_on, run_off, run_whole}

-- a store of one word, or none, keeps the length and every other word
pub change_length : (m m' : List ℕ) (to : ℕ → ℕ) (k : ℕ) → length (apply (change_at m' to k) m) ≡ length m
unfolding apply
change_length m m' to k = split (eqb (get_or m' k 0) (to (get_or m' k 0))) (λ z. rw z) (λ z. rw z (length-set m k (to (get_or m' k 0))))

pub change_other : (m m' : List ℕ) (to : ℕ → ℕ) (k j : ℕ) → k < j → get_or (apply (change_at m' to k) m) j 0 ≡ get_or m j 0
unfolding apply
change_other m m' to k j h =
    split (eqb (get_or m' k 0) (to (get_or m' k 0))) (λ z. rw z) (λ z. rw z (get_or-set_other m k j (to (get_or m' k 0)) 0 (λ e. omega (arith, e))))

-- what holds of the places before i, and of place i, holds of those before i + 1
pub one_more : (test : ℕ → Type 0) (at i : ℕ) → ((k : ℕ) → at ≤ k → k < at + i → test k) → test (at + i) → (k : ℕ) → at ≤ k → k < at + (i + 1) → test k
one_more test at i h here k lo hi =
    split (eqb k (at + i))
    (λ z. subst test (sym (eqb-true k (at + i) z)) here)
    (λ z. h k lo (let ne = eqb-false k (at + i) z in omega arith))

-- a row of words that all change is stored whole
pub row_fills : (m : List ℕ) (word n at : ℕ) → every (differs m word) n at ≡ true → row_stores m (λ w. word) n at ≡ fill_stores word n at
row_fills m word n at h = joined_cong (change_at m (λ w. word)) (λ k. record { at = k; word = word } ∷ []) n at (λ k lo hi. rw (not-true-false (eqb (get_or m k 0) word) (every_in (differs m word) n at h k lo hi)))

-- ---- word by word, each stored if it changes

pub record InRow (to : ℕ → ℕ) (m0 : List ℕ) (left : Budget) (at : ℕ) (m : List ℕ) (more : Budget) (i : ℕ) : Type 0 where
  pub size : length m ≡ length m0
  pub ahead : (k : ℕ) → at + i ≤ k → get_or m k 0 ≡ get_or m0 k 0
  pub done : all_made more m ≡ run left (row_stores m0 to i at) m0

pub row_start : {to : ℕ → ℕ} {m0 : List ℕ} {left : Budget} {at : ℕ} → InRow to m0 left at m0 left 0
unfolding joined
row_start {m0 = m0} {left = left} = record { size = refl; ahead = λ k l. refl; done = sym (run_none left m0) }

module _ {to : ℕ → ℕ} {m0 : List ℕ} {left : Budget} {at : ℕ} {m : List ℕ} {more : Budget} {i : ℕ} (s : InRow to m0 left at m more i) {w : ℕ} (is : w ≡ to (get_or m (at + i) 0)) where
  here : get_or m (at + i) 0 ≡ get_or m0 (at + i) 0
  here = s.ahead (at + i) (omega arith)

  change : change_at m (λ x. w) (at + i) ≡ change_at m0 to (at + i)
  change = ap₂ (λ (x y : ℕ). if eqb x y then [] else record { at = at + i; word = y } ∷ []) here (is ∙ ap to here)

  -- the store of this word is next
  pub row_ahead : (n : ℕ) → i < n → Ahead m0 (row_stores m0 to n at) → Ahead m (change_at m (λ x. w) (at + i))
  row_ahead n h a = ahead_of (sym change) (ahead_joined left (change_at m0 to) n at i h a s.done)

  -- it is made
  step : {o : Out} → o ≡ run more (change_at m (λ x. w) (at + i)) m → o ≡ run more (change_at m0 to (at + i)) m
  step said = said ∙ ap (λ (ss : List Store). run more ss m) change

  one_longer : row_stores m0 to (i + 1) at ≡ row_stores m0 to i at ++ change_at m0 to (at + i)
  unfolding joined
  one_longer = joined_append (change_at m0 to) i 1 at ∙ ap (λ (l : List Store). row_stores m0 to i at ++ l) (append-nil (change_at m0 to (at + i)))

  pub row_said : {o : Out} → o ≡ run more (change_at m (λ x. w) (at + i)) m → o ≡ run left (row_stores m0 to (i + 1) at) m0
  row_said said = sym (ap (λ (l : List Store). run left l m0) one_longer ∙ run_on left (row_stores m0 to i at) m0 s.done (change_at m0 to (at + i)) ∙ sym (step said))

  pub row_next : {l : Budget} {m' : List ℕ} → all_made l m' ≡ run more (change_at m (λ x. w) (at + i)) m → InRow to m0 left at m' l (i + 1)
  row_next {l} {m'} said =
      let wrote : m' ≡ apply (change_at m0 to (at + i)) m = (run_whole more (change_at m0 to (at + i)) m l m' (sym (step said))).1 in
      record {
        size = ap (λ (x : List ℕ). length x) wrote ∙ change_length m m0 to (at + i) ∙ s.size;
        ahead = λ k lo. ap (λ (x : List ℕ). get_or x k 0) wrote ∙ change_other m m0 to (at + i) k (omega arith) ∙ s.ahead k (omega arith);
        done = row_said said;
      }

  -- a row that is cut is cut whatever was to follow
  pub row_cut : {m' : List ℕ} → limit_reached m' ≡ run more (change_at m (λ x. w) (at + i)) m → (n : ℕ) → i < n → limit_reached m' ≡ run left (row_stores m0 to n at) m0
  row_cut said n h =
      let u : n ≡ i + 1 + (n - (i + 1)) = omega arith in
      sym (ap (λ (k : ℕ). run left (row_stores m0 to k at) m0) u
      ∙ ap (λ (l : List Store). run left l m0) (joined_append (change_at m0 to) (i + 1) (n - (i + 1)) at)
      ∙ run_off left (row_stores m0 to (i + 1) at) m0 (row_said said) (row_stores m0 to (n - (i + 1)) (at + (i + 1))))

-- ---- words that are all stored

pub record Filled (word : ℕ) (m0 : List ℕ) (left : Budget) (at : ℕ) (m : List ℕ) (rest : Budget) (i : ℕ) : Type 0 where
  pub size : length m ≡ length m0
  pub done : all_made rest m ≡ run left (fill_stores word i at) m0
  pub count : rest.more + i ≡ left.more

pub fill_start : {word : ℕ} {m0 : List ℕ} {left : Budget} {at : ℕ} → Filled word m0 left at m0 left 0
unfolding joined
fill_start {m0 = m0} {left = left} = record { size = refl; done = sym (run_none left m0); count = omega arith }

module _ {word : ℕ} {m0 : List ℕ} {left : Budget} {at : ℕ} {m : List ℕ} {rest : Budget} {i : ℕ} (s : Filled word m0 left at m rest i) where
  abbrev one : ℕ → List Store
  one j = record { at = j; word = word } ∷ []

  pub fill_next : {l : Budget} {m' : List ℕ} → all_made l m' ≡ run rest (one (at + i)) m → Filled word m0 left at m' l (i + 1)
  unfolding joined apply
  fill_next {l} {m'} e =
      let k = run_whole rest (one (at + i)) m l m' (sym e) in
      record {
        size = ap (λ (x : List ℕ). length x) k.1 ∙ length-set m (at + i) word ∙ s.size;
        done = e
            ∙ sym (run_on left (fill_stores word i at) m0 s.done (one (at + i)))
            ∙ sym (ap (λ (x : List Store). run left x m0) (joined_append one i 1 at));
        count = omega (arith, k.0, s.count);
      }

-- a row of no entries changes nothing
pub row_none : (to : ℕ → ℕ) (m0 : List ℕ) (left : Budget) (at n : ℕ) → n ≡ 0 → (r : Option Budget) (m : List ℕ) → out r m ≡ run left (row_stores m0 to n at) m0 → m ≡ m0
unfolding joined
row_none to m0 left at n z r m e = same r (e ∙ ap (λ (k : ℕ). run left (row_stores m0 to k at) m0) z ∙ run_none left m0)
  where
    same : (r : Option Budget) → out r m ≡ all_made left m0 → m ≡ m0
    same (Some l) y = cc
    same None y = absurd (let x : ◌≡◌ {A = ℕ} 0 1 = cc in omega arith)
