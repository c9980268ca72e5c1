-- Lists of faults: whether there is one, and which is the first of many lists.
use Rattle.std.specs.Prelude.{if◌then◌else◌}
use mathlib.Core.Path.{◌≡◌, refl, sym, ap, ◌∙◌}
use mathlib.Core.Bool.{Bool, true, false, true≢false, false≢true}
use mathlib.Core.List.{List, [], ◌∷◌, ◌++◌, head_d}
use Prim.Native.Nat.{ℕ, suc, ◌+◌, ◌-◌, ◌≤◌, ◌<◌}
use native.Mathlib.Nat.{zero-add}
use native.Mathlib.Omega.{arith}
use lib.ListN.{length}
use Rattle.model.specs.Numbers.{joined}
use Rattle.model.specs.Apart.{Separation, apart}
use Rattle.laws.proofs.Lists.{joined_none, joined_skip}
use Rattle.sharing.specs.First.{First}
use Rattle.sharing.specs.Faults.{some}

pub none_some : (l : List Separation) → some l ≡ false → l ≡ []
none_some [] h = refl
none_some (x ∷ xs) h = absurd (true≢false h)

pub some_long : (l : List Separation) → some l ≡ true → 0 < length l
some_long [] h = absurd (false≢true h)
some_long (x ∷ xs) h = omega arith

pub long_some : (l : List Separation) → 0 < length l → some l ≡ true
long_some [] h = absurd (omega arith)
long_some (x ∷ xs) h = refl

pub some_if : (c : Bool) (x : Separation) → some (if c then x ∷ [] else []) ≡ c
some_if true x = refl
some_if false x = refl

pub head_of : (d : Separation) (l : List Separation) → some l ≡ true → (rest : List Separation) → (some (l ++ rest) ≡ true) × (head_d (l ++ rest) d ≡ head_d l d)
unfolding head_d
head_of d [] h rest = absurd (false≢true h)
head_of d (x ∷ xs) h rest = (refl, refl)

pub head_if : (c : Bool) (x : Separation) → some (if c then x ∷ [] else []) ≡ true → head_d (if c then x ∷ [] else []) apart ≡ x
unfolding head_d
head_if true x h = refl
head_if false x h = absurd (false≢true h)

module _ (f : ℕ → List Separation) (n r : ℕ) (first : First (λ k. some (f k)) 0 n r) where
  at_zero : (k : ℕ) → f (0 + k) ≡ f k
  at_zero k = ap f (zero-add k)

  pub joined_rest : n ≤ r → joined f n 0 ≡ []
  joined_rest l = joined_none f n 0 (λ k lo hi. sym (at_zero k) ∙ none_some (f (0 + k)) (first.before k (omega arith)))

  pub joined_head : r < n → (d : Separation) → (some (joined f n 0) ≡ true) × (head_d (joined f n 0) d ≡ head_d (f r) d)
  unfolding joined head_d
  joined_head l d =
      let e : n ≡ r + suc (n - suc r) = omega arith in
      let skip = ap (λ (k : ℕ). joined f k 0) e ∙ joined_skip f r (suc (n - suc r)) 0 (λ k lo hi. sym (at_zero k) ∙ none_some (f (0 + k)) (first.before k (omega arith))) in
      let found = head_of d (f (0 + r)) (first.passes l) (joined f (n - suc r) (suc (0 + r))) in
      (ap some skip ∙ found.0, ap (λ (x : List Separation). head_d x d) skip ∙ found.1 ∙ ap (λ (x : List Separation). head_d x d) (at_zero r))
