-- Stores made in passes over the memory, and not each by a way of its own from the first word: the same, and quick.
-- The idea: a pass makes stores as long as each is at a later word than the one before; an edit's stores take few passes.
use mathlib.Core.Path.{◌≡◌, refl, sym, ap, ◌∙◌}
use mathlib.Core.Bool.{Bool, true, false}
use mathlib.Core.List.{List, [], ◌∷◌, ◌++◌}
use Prim.Native.Nat.{ℕ, zero, suc, ◌+◌}
use native.Mathlib.Omega.{arith}
use lib.Dec.{eqb, ltb, leb}
use lib.ListN.{length, take, drop, length-append}
use lib.Seq.{set_at, append_snoc, sets, sets-eq}
use borrow.Author.Tests.{eqb-true, leb-true}
use Rattle.model.specs.Stores.{Store, apply}
use Rattle.laws.proofs.Choices.{split, by_test}

abbrev Left : Type 0
Left = List ℕ × List Store

-- a pass over the memory from word k on: the words, and the stores that are left
unfoldable pub pass : ℕ → List ℕ → List Store → Left
pass k [] ss = ([], ss)
pass k (x ∷ m) [] = (x ∷ m, [])
pass k (x ∷ m) (s ∷ ss) =
    elim (eqb s.at k) [
      | true ↦ let r = pass (suc k) m ss in (s.word ∷ r.0, r.1)
      | false ↦ elim (ltb k s.at) [ true ↦ let r = pass (suc k) m (s ∷ ss) in (x ∷ r.0, r.1) | false ↦ (x ∷ m, s ∷ ss) ]
    ]

-- what the rest of the stores makes of it, after the words before k
abbrev then : List ℕ → Left → List ℕ
then pre r = apply r.1 (pre ++ r.0)

pub pass_same : (k : ℕ) (pre m : List ℕ) (ss : List Store) → length pre ≡ k → apply ss (pre ++ m) ≡ then pre (pass k m ss)
unfolding pass apply
pass_same k pre [] ss e = refl
pass_same k pre (x ∷ m) [] e = refl
pass_same k pre (x ∷ m) (s ∷ ss) e =
    split (eqb s.at k)
    (λ h. hit h (pass_same (suc k) (pre ++ (s.word ∷ [])) m ss (longer s.word)) ∙ sym (ap (λ (b : Bool). then pre (first b)) h))
    (λ h. split (ltb k s.at)
    (λ u. go (pass_same (suc k) (pre ++ (x ∷ [])) m (s ∷ ss) (longer x)) ∙ sym (ap (λ (b : Bool). then pre (second b)) u) ∙ sym (ap (λ (b : Bool). then pre (first b)) h))
    (λ u. sym (ap (λ (b : Bool). then pre (second b)) u) ∙ sym (ap (λ (b : Bool). then pre (first b)) h)))
  where
    stored : Left
    stored = (s.word ∷ (pass (suc k) m ss).0, (pass (suc k) m ss).1)

    passed : Left
    passed = (x ∷ (pass (suc k) m (s ∷ ss)).0, (pass (suc k) m (s ∷ ss)).1)

    second : Bool → Left
    second b = elim b [ true ↦ passed | false ↦ (x ∷ m, s ∷ ss) ]

    first : Bool → Left
    first b = elim b [ true ↦ stored | false ↦ second (ltb k s.at) ]

    longer : (y : ℕ) → length (pre ++ (y ∷ [])) ≡ suc k
    longer y = length-append pre (y ∷ []) ∙ omega (arith, e)

    hit : eqb s.at k ≡ true → apply ss ((pre ++ (s.word ∷ [])) ++ m) ≡ then (pre ++ (s.word ∷ [])) (pass (suc k) m ss) → apply (s ∷ ss) (pre ++ x ∷ m) ≡ then pre stored
    hit h ih =
        ap (λ (l : List ℕ). apply ss l) (set_at pre x m s.word s.at (e ∙ sym (eqb-true _ _ h)) ∙ sym (append_snoc pre s.word m))
        ∙ ih
        ∙ ap (λ (l : List ℕ). apply (pass (suc k) m ss).1 l) (append_snoc pre s.word (pass (suc k) m ss).0)

    go : apply (s ∷ ss) ((pre ++ (x ∷ [])) ++ m) ≡ then (pre ++ (x ∷ [])) (pass (suc k) m (s ∷ ss)) → apply (s ∷ ss) (pre ++ x ∷ m) ≡ then pre passed
    go ih =
        ap (λ (l : List ℕ). apply (s ∷ ss) l) (sym (append_snoc pre x m))
        ∙ ih
        ∙ ap (λ (l : List ℕ). apply (pass (suc k) m (s ∷ ss)).1 l) (append_snoc pre x (pass (suc k) m (s ∷ ss)).0)

-- d passes, and what is left then each by its own way
unfoldable pub passes : ℕ → List Store → List ℕ → List ℕ
passes zero ss m = apply ss m
passes (suc d) ss m = let r = pass 0 m ss in passes d r.1 r.0

pub apply_passes : (d : ℕ) (ss : List Store) (m : List ℕ) → apply ss m ≡ passes d ss m
unfolding passes
apply_passes zero ss m = refl
apply_passes (suc d) ss m = pass_same 0 [] m ss refl ∙ apply_passes d (pass 0 m ss).1 (pass 0 m ss).0

-- ---- a run of stores to neighbouring words, at one go

unfoldable pub pasted : List ℕ → ℕ → List ℕ → List ℕ
pasted m i vs = elim (leb (i + length vs) (length m)) [ true ↦ take i m ++ vs ++ drop (i + length vs) m | false ↦ sets m i vs ]

pub sets_pasted : (m : List ℕ) (i : ℕ) (vs : List ℕ) → sets m i vs ≡ pasted m i vs
unfolding pasted
sets_pasted m i vs = by_test (leb (i + length vs) (length m)) (λ h. sets-eq vs m i (leb-true _ _ h)) (λ h. refl)
