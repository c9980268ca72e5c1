-- Making a list of stores up to a limit: a run of two lists is a run of the first and then one of the second, and a run comes to the first
-- stores of its list, as many as the limit allows.
use mathlib.Core.Path.{◌≡◌, refl, sym, ap, ◌∙◌}
use mathlib.Core.List.{List, [], ◌∷◌, ◌++◌}
use Prim.Native.Nat.{ℕ, zero, suc, ◌+◌, ◌-◌, ◌<◌}
use native.Mathlib.Omega.{arith}
use native.Mathlib.Numerals.{add-one}
use lib.ListN.{length, take, set}
use Rattle.std.specs.Prelude.{Option, Some, None}
use Rattle.shapes.specs.Run.{Out, all_made, limit_reached, out, and_then, run_from, run}
use Rattle.types.specs.declared.Budget.{Budget}
use Rattle.model.specs.Numbers.{joined}
use Rattle.model.specs.Stores.{Store, apply}

pub run_none : (left : Budget) (m : List ℕ) → run left [] m ≡ all_made left m
unfolding run_from
run_none left m = refl

pub run_cut : (left : Budget) (s : Store) (ss : List Store) (m : List ℕ) → left.more ≡ 0 → run left (s ∷ ss) m ≡ limit_reached m
unfolding run_from
run_cut left s ss m z = ap (λ (k : ℕ). run_from k left.last (s ∷ ss) m) z

pub run_one : (left : Budget) (s : Store) (m : List ℕ) → 0 < left.more → run left (s ∷ []) m ≡ all_made (record { more = left.more - 1; last = s.at }) (set m s.at s.word)
unfolding run_from
run_one left s m h = let z : left.more ≡ suc (left.more - 1) = omega arith in ap (λ (k : ℕ). run_from k left.last (s ∷ []) m) z

from_append : (more last : ℕ) (ss ts : List Store) (m : List ℕ) → run_from more last (ss ++ ts) m ≡ and_then (run_from more last ss m) (λ l n. run l ts n)
unfolding run_from
from_append more last [] ts m = refl
from_append zero last (s ∷ ss) ts m = refl
from_append (suc more) last (s ∷ ss) ts m = from_append more s.at ss ts (set m s.at s.word)

pub run_append : (left : Budget) (ss ts : List Store) (m : List ℕ) → run left (ss ++ ts) m ≡ and_then (run left ss m) (λ l n. run l ts n)
run_append left ss ts m = from_append left.more left.last ss ts m

-- what a run comes to
from_whole : (more last : ℕ) (ss : List Store) (m : List ℕ) (l : Budget) (n : List ℕ) → run_from more last ss m ≡ all_made l n → (length ss + l.more ≡ more) × (n ≡ apply ss m)
unfolding run_from apply
from_whole more last [] m l n e = let x : record { more = more; last = last } ≡ l = cc in let y : m ≡ n = cc in (omega (arith, ap (λ (b : Budget). b.more) x), sym y)
from_whole zero last (s ∷ ss) m l n e = absurd (let z : ◌≡◌ {A = ℕ} 0 1 = cc in omega arith)
from_whole (suc more) last (s ∷ ss) m l n e = let r = from_whole more s.at ss (set m s.at s.word) l n e in (omega arith, r.1)

pub run_whole : (left : Budget) (ss : List Store) (m : List ℕ) (l : Budget) (n : List ℕ) → run left ss m ≡ all_made l n → (length ss + l.more ≡ left.more) × (n ≡ apply ss m)
run_whole left ss m l n e = from_whole left.more left.last ss m l n e

from_short : (more last : ℕ) (ss : List Store) (m n : List ℕ) → run_from more last ss m ≡ limit_reached n → (more < length ss) × (n ≡ apply (take more ss) m)
unfolding run_from apply
from_short more last [] m n e = absurd (let z : ◌≡◌ {A = ℕ} 0 1 = cc in omega arith)
from_short zero last (s ∷ ss) m n e = let y : m ≡ n = cc in (omega arith, sym y)
from_short (suc more) last (s ∷ ss) m n e = let r = from_short more s.at ss (set m s.at s.word) n e in (omega arith, r.1)

pub run_short : (left : Budget) (ss : List Store) (m n : List ℕ) → run left ss m ≡ limit_reached n → (left.more < length ss) × (n ≡ apply (take left.more ss) m)
run_short left ss m n e = from_short left.more left.last ss m n e

-- ---- what a function says of its stores: all were made, or the limit cut them

pub out_whole : {r : Option Budget} {l : Budget} (n : List ℕ) → r ≡ Some l → out r n ≡ all_made l n
out_whole n z = ap (λ (o : Option Budget). out o n) z

pub out_cut : {r : Option Budget} (n : List ℕ) → r ≡ None → out r n ≡ limit_reached n
out_cut n z = ap (λ (o : Option Budget). out o n) z

-- ---- a list of stores that is joined from a run of lists

module _ (left : Budget) (ss : List Store) (m : List ℕ) where
  -- the first stores are all made: the rest goes on from there
  pub run_on : {l : Budget} {n : List ℕ} → all_made l n ≡ run left ss m → (ts : List Store) → run left (ss ++ ts) m ≡ run l ts n
  run_on e ts = run_append left ss ts m ∙ ap (λ (o : Out). and_then o (λ k x. run k ts x)) (sym e)

  pub run_off : {n : List ℕ} → limit_reached n ≡ run left ss m → (ts : List Store) → run left (ss ++ ts) m ≡ limit_reached n
  run_off e ts = run_append left ss ts m ∙ ap (λ (o : Out). and_then o (λ k x. run k ts x)) (sym e)

module _ (g : ℕ → List Store) (n i : ℕ) (h : i < n) where
  pub joined_next : joined g (n - i) i ≡ g i ++ joined g (n - (i + 1)) (i + 1)
  unfolding joined
  joined_next =
      let a : n - i ≡ suc (n - (i + 1)) = omega arith in
      ap (λ (k : ℕ). joined g k i) a ∙ ap (λ (k : ℕ). g i ++ joined g (n - (i + 1)) k) (sym (add-one i))

pub joined_end : (g : ℕ → List Store) (n i : ℕ) → n ≡ 0 → joined g n i ≡ []
unfolding joined
joined_end g n i z = ap (λ (k : ℕ). joined g k i) z
