-- How often a number stands in a list, and by it `member`, `distinct` and `each`.
use Rattle.std.specs.Prelude.{if◌then◌else◌}
use mathlib.Core.Path.{◌≡◌, refl, sym, ap, ◌∙◌, subst}
use mathlib.Core.Logic.{◌≢◌}
use mathlib.Core.Bool.{Bool, true, false, not, true≢false}
use mathlib.Core.List.{List, [], ◌∷◌, ◌++◌, head_d}
use Prim.Native.Nat.{ℕ, suc, ◌+◌, ◌≤◌, ◌<◌, zero-le}
use native.Mathlib.Nat.{not-suc-le-zero, zero-add, add_assoc}
use native.Mathlib.Omega.{arith}
use lib.Dec.{eqb, ltb}
use lib.ListN.{length}
use borrow.Author.Tests.{eqb-true, eq-eqb, ne_eqb, ltb-true, ltb-false}
use Rattle.model.specs.Numbers.{each, member, distinct}
use Rattle.laws.proofs.Choices.{split, and_true, and_both, not-true-false}
use Rattle.laws.proofs.Lists.{each_step, member_step, distinct_step}

unfoldable pub times : ℕ → List ℕ → ℕ
times x [] = 0
times x (y ∷ ys) = (if eqb x y then 1 else 0) + times x ys

pub times_none : (x : ℕ) → times x [] ≡ 0
unfolding times
times_none x = refl

pub times_append : (x : ℕ) (s t : List ℕ) → times x (s ++ t) ≡ times x s + times x t
unfolding times
times_append x [] t = sym (zero-add (times x t))
times_append x (y ∷ ys) t = ap (λ (k : ℕ). (if eqb x y then 1 else 0) + k) (times_append x ys t) ∙ sym (add_assoc _ _ _)

pub times_here : (x : ℕ) (ys : List ℕ) → times x (x ∷ ys) ≡ suc (times x ys)
unfolding times
times_here x ys = rw (eq-eqb x x refl) (omega arith)

pub times_one : (x : ℕ) → times x (x ∷ []) ≡ 1
unfolding times
times_one x = rw (eq-eqb x x refl) refl

pub times_other : (x y : ℕ) → x ≢ y → times x (y ∷ []) ≡ 0
unfolding times
times_other x y h = rw (ne_eqb x y h) refl

pub times_single : (x y : ℕ) → 0 < times x (y ∷ []) → x ≡ y
unfolding times
times_single x y h =
    split (eqb x y) (eqb-true x y) (λ e. absurd (not-suc-le-zero (subst (λ (b : Bool). 0 < (if b then 1 else 0) + 0) e h)))

-- ---- member, distinct and each, by times

pub member_none : (x : ℕ) (ys : List ℕ) → times x ys ≡ 0 → member x ys ≡ false
unfolding member times
member_none x [] h = refl
member_none x (y ∷ ys) h =
    member_step x y ys
    ∙ split (eqb x y)
    (λ e. let z : 1 + times x ys ≡ 0 = rw e at h in absurd (omega arith))
    (λ e. let z : 0 + times x ys ≡ 0 = rw e at h in rw (e, member_none x ys (omega arith)))

pub member_some : (x : ℕ) (ys : List ℕ) → 0 < times x ys → member x ys ≡ true
unfolding member times
member_some x [] h = absurd (not-suc-le-zero h)
member_some x (y ∷ ys) h =
    member_step x y ys
    ∙ split (eqb x y)
    (λ e. rw e)
    (λ e. let z : 0 < 0 + times x ys = rw e at h in rw (e, member_some x ys (omega arith)))

pub distinct_times : (ys : List ℕ) → distinct ys ≡ true → (x : ℕ) → times x ys ≤ 1
unfolding times
distinct_times [] h x = zero-le
distinct_times (y ∷ ys) h x =
    let both = and_true (not (member y ys)) (distinct ys) (sym (distinct_step y ys) ∙ h) in
    split (eqb x y)
    (λ e. split (ltb 0 (times y ys))
    (λ l. absurd (true≢false (sym (member_some y ys (ltb-true 0 (times y ys) l)) ∙ not-true-false (member y ys) both.0)))
    (λ l. let n : times y ys ≤ 0 = ltb-false 0 (times y ys) l in
    let q : x ≡ y = eqb-true x y e in
    let m : times x ys ≤ 0 = subst (λ (z : ℕ). times z ys ≤ 0) (sym q) n in
    rw e (omega arith)))
    (λ e. rw e (omega (arith, distinct_times ys both.1 x)))

pub times_distinct : (ys : List ℕ) → ((x : ℕ) → times x ys ≤ 1) → distinct ys ≡ true
unfolding distinct times
times_distinct [] h = refl
times_distinct (y ∷ ys) h =
    let none : times y ys ≡ 0 = omega (arith, h y, times_here y ys) in
    distinct_step y ys
    ∙ and_both (ap not (member_none y ys none)) (times_distinct ys (λ x. omega (arith, h x)))

-- what stands in a list passes the test
pub each_at : (test : ℕ → Bool) (ys : List ℕ) → each test ys ≡ true → (x : ℕ) → 0 < times x ys → test x ≡ true
unfolding times
each_at test [] h x l = absurd (not-suc-le-zero l)
each_at test (y ∷ ys) h x l =
    let both = and_true (test y) (each test ys) (sym (each_step test y ys) ∙ h) in
    split (eqb x y)
    (λ e. rw (eqb-true x y e) both.0)
    (λ e. let z : 0 < 0 + times x ys = rw e at l in each_at test ys both.1 x (omega arith))

pub each_all : (test : ℕ → Bool) (ys : List ℕ) → ((x : ℕ) → 0 < times x ys → test x ≡ true) → each test ys ≡ true
unfolding times each
each_all test [] h = refl
each_all test (y ∷ ys) h =
    each_step test y ys
    ∙ and_both (h y (omega (arith, times_here y ys))) (each_all test ys (λ x l. h x (omega arith)))

-- the head of a list that is not empty stands in it
pub head_times : (xs : List ℕ) → 0 < length xs → 0 < times (head_d xs 0) xs
unfolding head_d
head_times [] h = absurd (not-suc-le-zero h)
head_times (x ∷ xs) h = omega (arith, times_here x xs)
