-- Lists, one step at a time: `each`, `member`, `distinct`; and `joined`, the lists of a run of numbers put together.
use mathlib.Core.Path.{◌≡◌, refl, sym, ap, ap₂, ◌∙◌}
use mathlib.Core.Bool.{Bool, not, ◌&&◌, ◌||◌}
use mathlib.Core.List.{List, [], ◌∷◌, ◌++◌, append_assoc}
use Prim.Native.Nat.{ℕ, zero, suc, ◌+◌, ◌≤◌, ◌<◌}
use native.Mathlib.Nat.{zero-add, add-zero}
use native.Mathlib.Omega.{arith}
use lib.Dec.{eqb}
use lib.ListN.{length, length-append}
use Rattle.model.specs.Numbers.{joined, each, member, distinct}
use Rattle.laws.proofs.Choices.{and_assoc, elim_and, elim_or, elim_not}

pub each_step : {A : Type 0} (test : A → Bool) (y : A) (ys : List A) → each test (y ∷ ys) ≡ (test y && each test ys)
unfolding each
each_step test y ys = elim_and (test y) (each test ys)

pub each_append : {A : Type 0} (test : A → Bool) (xs ys : List A) → each test (xs ++ ys) ≡ (each test xs && each test ys)
unfolding each
each_append test [] ys = refl
each_append test (x ∷ xs) ys =
    each_step test x (xs ++ ys)
    ∙ ap (λ (b : Bool). test x && b) (each_append test xs ys)
    ∙ sym (and_assoc (test x) (each test xs) (each test ys))
    ∙ ap (λ (b : Bool). b && each test ys) (sym (each_step test x xs))

pub member_step : (x y : ℕ) (ys : List ℕ) → member x (y ∷ ys) ≡ (eqb x y || member x ys)
unfolding member
member_step x y ys = elim_or (eqb x y) (member x ys)

pub distinct_step : (y : ℕ) (ys : List ℕ) → distinct (y ∷ ys) ≡ (not (member y ys) && distinct ys)
unfolding distinct
distinct_step y ys = elim_not (member y ys) (distinct ys)

-- ---- joined

pub joined_short : (f : ℕ → List ℕ) → ((k : ℕ) → length (f k) ≤ 1) → (n s : ℕ) → length (joined f n s) ≤ n
unfolding joined
joined_short f one zero s = omega arith
joined_short f one (suc n) s = omega (arith, length-append (f s) (joined f n (suc s)), one s, joined_short f one n (suc s))

module _ {A : Type 0} where
  pub joined_cong : (g h : ℕ → List A) (n s : ℕ) → ((k : ℕ) → s ≤ k → k < s + n → g k ≡ h k) → joined g n s ≡ joined h n s
  unfolding joined
  joined_cong g h zero s e = refl
  joined_cong g h (suc n) s e = ap₂ (λ (x y : List A). x ++ y) (e s (omega arith) (omega arith)) (joined_cong g h n (suc s) (λ k lo hi. e k (omega arith) (omega arith)))

  pub joined_none : (g : ℕ → List A) (n s : ℕ) → ((k : ℕ) → s ≤ k → k < s + n → g k ≡ []) → joined g n s ≡ []
  unfolding joined
  joined_none g zero s e = refl
  joined_none g (suc n) s e = ap₂ (λ (x y : List A). x ++ y) (e s (omega arith) (omega arith)) (joined_none g n (suc s) (λ k lo hi. e k (omega arith) (omega arith)))

  pub joined_skip : (g : ℕ → List A) (a n s : ℕ) → ((k : ℕ) → s ≤ k → k < s + a → g k ≡ []) → joined g (a + n) s ≡ joined g n (s + a)
  unfolding joined
  joined_skip g zero n s e = ap₂ (λ (x y : ℕ). joined g x y) (zero-add n) (sym (add-zero s))
  joined_skip g (suc a) n s e =
      let u : suc a + n ≡ suc (a + n) = omega arith in
      let v : suc s + a ≡ s + suc a = omega arith in
      ap (λ (x : ℕ). joined g x s) u
      ∙ ap₂ (λ (x y : List A). x ++ y) (e s (omega arith) (omega arith)) (joined_skip g a n (suc s) (λ k lo hi. e k (omega arith) (omega arith)))
      ∙ ap (joined g n) v

  pub joined_append : (g : ℕ → List A) (a n s : ℕ) → joined g (a + n) s ≡ joined g a s ++ joined g n (s + a)
  unfolding joined
  joined_append g zero n s = ap₂ (λ (x y : ℕ). joined g x y) (zero-add n) (sym (add-zero s))
  joined_append g (suc a) n s =
      let u : suc a + n ≡ suc (a + n) = omega arith in
      let v : suc s + a ≡ s + suc a = omega arith in
      ap (λ (x : ℕ). joined g x s) u
      ∙ ap (λ (l : List A). g s ++ l) (joined_append g a n (suc s) ∙ ap (λ (k : ℕ). joined g a (suc s) ++ joined g n k) v)
      ∙ sym (append_assoc (g s) (joined g a (suc s)) (joined g n (s + suc a)))
