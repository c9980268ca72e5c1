-- `every`: the test of each number of a run.
use mathlib.Core.Path.{◌≡◌, refl, sym, ap, ap₂, ◌∙◌, subst}
use mathlib.Core.Bool.{Bool, true, false, ◌&&◌}
use Prim.Native.Nat.{ℕ, zero, suc, ◌+◌, ◌-◌, ◌≤◌, ◌<◌, zero-le, suc-le-suc}
use native.Mathlib.Nat.{le_of_suc-le-suc, not-suc-le-zero, add-zero, zero-add}
use native.Mathlib.Omega.{arith}
use native.Mathlib.Numerals.{add-one}
use Rattle.model.specs.Numbers.{every}
use Rattle.laws.proofs.Choices.{and_true, and_both, and_assoc, and-alone, elim_and}

pub every_step : (test : ℕ → Bool) (n s : ℕ) → every test (suc n) s ≡ (test s && every test n (suc s))
unfolding every
every_step test n s = elim_and (test s) (every test n (suc s))

pub every_at : (test : ℕ → Bool) (n s : ℕ) → every test n s ≡ true → (i : ℕ) → i < n → test (s + i) ≡ true
every_at test zero s h i l = absurd (not-suc-le-zero l)
every_at test (suc n) s h zero l = rw add-zero (and_true (test s) (every test n (suc s)) (sym (every_step test n s) ∙ h)).0
every_at test (suc n) s h (suc i) l =
    let e : s + suc i ≡ suc s + i = omega arith in
    rw e (every_at test n (suc s) (and_true (test s) (every test n (suc s)) (sym (every_step test n s) ∙ h)).1 i (le_of_suc-le-suc l))

pub every_all : (test : ℕ → Bool) (n s : ℕ) → ((i : ℕ) → i < n → test (s + i) ≡ true) → every test n s ≡ true
unfolding every
every_all test zero s h = refl
every_all test (suc n) s h =
    every_step test n s
    ∙ and_both (rw add-zero at (h 0 (suc-le-suc zero-le)))
    (every_all test n (suc s) (λ i l. let e : suc s + i ≡ s + suc i = omega arith in rw e (h (suc i) (suc-le-suc l))))

pub every_cong : (f g : ℕ → Bool) (n s : ℕ) → ((k : ℕ) → s ≤ k → k < s + n → f k ≡ g k) → every f n s ≡ every g n s
unfolding every
every_cong f g zero s e = refl
every_cong f g (suc n) s e =
    every_step f n s
    ∙ ap₂ (λ (a b : Bool). a && b) (e s (omega arith) (omega arith)) (every_cong f g n (suc s) (λ k l u. e k (omega arith) (omega arith)))
    ∙ sym (every_step g n s)

-- the same, with the number itself
pub every_in : (test : ℕ → Bool) (n s : ℕ) → every test n s ≡ true → (k : ℕ) → s ≤ k → k < s + n → test k ≡ true
every_in test n s h k l u =
    let z : s + (k - s) ≡ k = omega arith in
    subst (λ (j : ℕ). test j ≡ true) z (every_at test n s h (k - s) (omega arith))

-- where all numbers pass or fail together, so does the run
pub every_constant : (test : ℕ → Bool) (c : Bool) (n s : ℕ) → 0 < n → ((k : ℕ) → s ≤ k → k < s + n → test k ≡ c) → every test n s ≡ c
unfolding every
every_constant test c zero s l h = absurd (omega arith)
every_constant test true (suc n) s l h = every_all test (suc n) s (λ i u. h (s + i) (omega arith) (omega arith))
every_constant test false (suc n) s l h =
    every_step test n s ∙ ap₂ (λ (a b : Bool). a && b) (h s (omega arith) (omega arith)) refl

-- a run in two parts
pub every_split : (test : ℕ → Bool) (a n s : ℕ) → every test (a + n) s ≡ (every test a s && every test n (s + a))
unfolding every
every_split test zero n s = ap₂ (λ (k t : ℕ). every test k t) (zero-add n) (sym (add-zero s))
every_split test (suc a) n s =
    let e : suc a + n ≡ suc (a + n) = omega arith in
    let f : s + suc a ≡ suc s + a = omega arith in
    rw (e, f)
    (every_step test (a + n) s
    ∙ ap (λ (x : Bool). test s && x) (every_split test a n (suc s))
    ∙ sym (and_assoc (test s) (every test a (suc s)) (every test n (suc s + a)))
    ∙ sym (ap (λ (x : Bool). x && every test n (suc s + a)) (every_step test a s)))

-- one number more, at the end
pub every_next_last : (test : ℕ → Bool) (n s : ℕ) → every test (n + 1) s ≡ (every test n s && test (s + n))
unfolding every
every_next_last test n s = every_split test n 1 s ∙ ap (λ (b : Bool). every test n s && b) (every_step test 0 (s + n) ∙ and-alone (test (s + n)))

-- what is left of a run at i, by its next number
pub every_next : (test : ℕ → Bool) (n i : ℕ) → i < n → every test (n - i) i ≡ (test i && every test (n - (i + 1)) (i + 1))
every_next test n i h =
    let e : n - i ≡ suc (n - (i + 1)) = omega arith in
    ap (λ (k : ℕ). every test k i) e
    ∙ every_step test (n - (i + 1)) i
    ∙ ap (λ (k : ℕ). test i && every test (n - (i + 1)) k) (sym (add-one i))

pub every_none : (test : ℕ → Bool) (n i : ℕ) → n ≤ i → every test (n - i) i ≡ true
unfolding every
every_none test n i h = let e : n - i ≡ 0 = omega arith in ap (λ (k : ℕ). every test k i) e

pub every_shift : (test : ℕ → Bool) (n s : ℕ) → every test n (suc s) ≡ every (λ i. test (suc i)) n s
unfolding every
every_shift test zero s = refl
every_shift test (suc n) s =
    every_step test n (suc s) ∙ ap (λ (b : Bool). test (suc s) && b) (every_shift test n (suc s)) ∙ sym (every_step (λ i. test (suc i)) n s)
