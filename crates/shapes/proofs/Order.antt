-- Where an edit stands: before a part of what is ahead, and after the stores before that part; and the same from what the functions say of
-- their stores, with what is left of a list (`Remaining`), which decides the whole.
use mathlib.Core.Path.{◌≡◌, refl, sym, ap, ◌∙◌, subst}
use mathlib.Core.List.{List, [], ◌∷◌, ◌++◌, append_assoc, append-nil, head_d, tail}
use Prim.Native.Nat.{ℕ, suc, ◌+◌, ◌-◌, ◌<◌}
use native.Mathlib.Omega.{arith}
use lib.ListN.{length, take, drop, set, length-append, length-drop, take-append-drop}
use lib.Seq.{take-append_seam}
use Rattle.model.specs.Demands.{stopped}
use Rattle.model.specs.Numbers.{joined}
use Rattle.model.specs.Stores.{Store, apply}
use Rattle.theory.proofs.Along.{apply_append, apply_none}
use Rattle.laws.proofs.Lists.{joined_append}
use Rattle.types.specs.declared.Budget.{Budget}
use Rattle.shapes.specs.Ahead.{AcceptedEdit, list_of, leaves, Ahead, Turned, NextStore}
use Rattle.shapes.specs.Run.{all_made, limit_reached, run}
use Rattle.shapes.proofs.RunLaws.{run_none, run_on, run_off, run_whole}

-- what the first stores leave
leaves_made : (e : AcceptedEdit) (made rest : List Store) → list_of e ≡ made ++ rest → leaves e (length made) ≡ apply made e.found
unfolding stopped
leaves_made e made rest o =
    ap (λ (l : List Store). apply (take (length made) l) e.found) o ∙ ap (λ (l : List Store). apply l e.found) (take-append_seam made rest)

-- a call begins: its whole list is ahead. All else here goes from what is ahead to a part of it
pub ahead_start : (e : AcceptedEdit) → Ahead e.found (list_of e)
unfolding stopped apply
ahead_start e = record { edit = e; made = []; later = []; order = sym (append-nil (list_of e)); stands = refl }

pub ahead_of : {m : List ℕ} {l l' : List Store} → l ≡ l' → Ahead m l → Ahead m l'
ahead_of {m} e a = subst (Ahead m) e a

-- ahead are x, y and z; once those of x are made, those of y
module _ {m : List ℕ} {l : List Store} (x y z : List Store) (e : l ≡ x ++ (y ++ z)) (a : Ahead m l) where
  parts : list_of a.edit ≡ (a.made ++ x) ++ (y ++ (z ++ a.later))
  parts =
      a.order
      ∙ ap (λ (r : List Store). a.made ++ r)
      (ap (λ (r : List Store). r ++ a.later) e ∙ append_assoc x (y ++ z) a.later ∙ ap (λ (r : List Store). x ++ r) (append_assoc y z a.later))
      ∙ sym (append_assoc a.made x (y ++ (z ++ a.later)))

  pub ahead_at : {m' : List ℕ} → m' ≡ apply x m → Ahead m' y
  ahead_at w =
      record {
        edit = a.edit;
        made = a.made ++ x;
        later = z ++ a.later;
        order = parts;
        stands =
            w
            ∙ ap (apply x) (a.stands ∙ leaves_made a.edit a.made (l ++ a.later) a.order)
            ∙ sym (apply_append a.made x a.edit.found)
            ∙ sym (leaves_made a.edit (a.made ++ x) (y ++ (z ++ a.later)) parts);
      }

-- "for each k below the list's length": what limit k leaves has the list's store k ahead
first_of : (l : List Store) (none : Store) → 0 < length l → l ≡ head_d l none ∷ tail l
unfolding head_d
first_of [] none h = absurd (omega arith)
first_of (s ∷ ss) none h = refl

pub ahead_each : (e : AcceptedEdit) (k : ℕ) (none : Store) → k < length (list_of e) → Ahead (leaves e k) (head_d (drop k (list_of e)) none ∷ [])
unfolding stopped
ahead_each e k none h =
    let l = list_of e in
    ahead_at (take k l) (head_d (drop k l) none ∷ []) (tail (drop k l))
    (sym (take-append-drop k l) ∙ ap (λ (r : List Store). take k l ++ r) (first_of (drop k l) none (omega (arith, h, length-drop k l))))
    (ahead_start e) refl

-- the first of two parts; and the second, once the first is made
pub ahead_first : {m : List ℕ} (x y : List Store) → Ahead m (x ++ y) → Ahead m x
ahead_first {m} x y a = ahead_at [] x y refl a (sym (apply_none m))

pub ahead_then : {m m' : List ℕ} (x y : List Store) → Ahead m (x ++ y) → m' ≡ apply x m → Ahead m' y
ahead_then x y a w = ahead_at x y [] (ap (λ (r : List Store). x ++ r) (sym (append-nil y))) a w

-- number i of a list that is joined from a run of lists, once those before it are made
pub ahead_number : {m m' : List ℕ} (g : ℕ → List Store) (n s i : ℕ) → i < n → Ahead m (joined g n s) → m' ≡ apply (joined g i s) m → Ahead m' (g (s + i))
unfolding joined
ahead_number g n s i h a w =
    let u : n ≡ i + suc (n - (i + 1)) = omega arith in
    ahead_at (joined g i s) (g (s + i)) (joined g (n - (i + 1)) (suc (s + i))) (ap (λ (k : ℕ). joined g k s) u ∙ joined_append g i (suc (n - (i + 1))) s) a w

-- the one store that is ahead is made
pub turned : {m m' : List ℕ} (s : Store) (a : Ahead m (s ∷ [])) → m' ≡ set m s.at s.word → Turned a.edit (length a.made) m m'
unfolding apply ahead_then ahead_at
turned s a w =
    record {
      below = omega (arith, ap (λ (l : List Store). length l) a.order, length-append a.made (s ∷ a.later));
      was = a.stands;
      is = (ahead_then (s ∷ []) [] a w).stands ∙ ap (leaves a.edit) (length-append a.made (s ∷ []));
    }

pub next_made : {m m' : List ℕ} (s : Store) → Ahead m (s ∷ []) → m' ≡ set m s.at s.word → NextStore m (s ∷ []) m'
next_made s a w = record { edit = a.edit; k = length a.made; turned = turned s a w; each = λ b. turned s b w }

-- ---- from what the functions say of their stores

-- the second of two parts, once the first is made
pub ahead_run : {m m' : List ℕ} {l : Budget} (left : Budget) (x y : List Store) → Ahead m (x ++ y) → all_made l m' ≡ run left x m → Ahead m' y
ahead_run {m} {m'} {l} left x y a w = ahead_then x y a (run_whole left x m l m' (sym w)).1

-- ---- the stores of `all` from m0 on: some are made, and `rest` decides the whole from here

pub record Remaining (left : Budget) (m0 : List ℕ) (all : List Store) (more : Budget) (m : List ℕ) (rest : List Store) : Type 0 where
  pub same : run left all m0 ≡ run more rest m
  pub next : Ahead m rest

module _ {left : Budget} {m0 : List ℕ} {all : List Store} where
  pub remaining_start : {rest : List Store} → all ≡ rest → Ahead m0 all → Remaining left m0 all left m0 rest
  remaining_start e a = record { same = ap (λ (l : List Store). run left l m0) e; next = ahead_of e a }

  module _ {more : Budget} {m : List ℕ} {rest : List Store} (w : Remaining left m0 all more m rest) where
    pub remaining_end : rest ≡ [] → all_made more m ≡ run left all m0
    remaining_end e = sym (w.same ∙ ap (λ (l : List Store). run more l m) e ∙ run_none more m)

    -- the rest begins with ss
    module _ (ss ts : List Store) (e : rest ≡ ss ++ ts) where
      pub remaining_ahead : Ahead m ss
      remaining_ahead = ahead_first ss ts (ahead_of e w.next)

      pub remaining_next : {l : Budget} {m' : List ℕ} → all_made l m' ≡ run more ss m → Remaining left m0 all l m' ts
      remaining_next said = record { same = w.same ∙ ap (λ (l : List Store). run more l m) e ∙ run_on more ss m said ts; next = ahead_run more ss ts (ahead_of e w.next) said }

      pub remaining_cut : {m' : List ℕ} → limit_reached m' ≡ run more ss m → limit_reached m' ≡ run left all m0
      remaining_cut said = sym (w.same ∙ ap (λ (l : List Store). run more l m) e ∙ run_off more ss m said ts)

-- number i of a list that is joined from a run of lists
pub ahead_joined : {m m' : List ℕ} {l : Budget} (left : Budget) (g : ℕ → List Store) (n s i : ℕ) → i < n → Ahead m (joined g n s) → all_made l m' ≡ run left (joined g i s) m → Ahead m' (g (s + i))
ahead_joined {m} {m'} {l} left g n s i h a w = ahead_number g n s i h a (run_whole left (joined g i s) m l m' (sym w)).1
