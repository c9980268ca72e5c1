-- Tests: by cases on one, and what a true or false `&&`, `||` or `not` says of its parts.
use mathlib.Core.Path.{◌≡◌, refl, sym, ◌∙◌}
use mathlib.Core.Logic.{◌⊎◌, inl, inr}
use mathlib.Core.Bool.{Bool, true, false, not, ◌&&◌, ◌||◌, true≢false, false≢true}
pub use mathlib.Core.Bool.{and_assoc, and-true as and-alone}
pub use borrow.Author.Tests.{not-true as not-true-false, not-false as not-false-true}

pub and_true : (a b : Bool) → (a && b) ≡ true → (a ≡ true) × (b ≡ true)
and_true true b h = (refl, h)
and_true false b h = absurd (false≢true h)

pub and_both : {a b : Bool} → a ≡ true → b ≡ true → (a && b) ≡ true
and_both p q = rw (p, q)

pub and_false : (a b : Bool) → (a && b) ≡ false → a ≡ true → b ≡ true → ⊥
and_false true b h p q = true≢false (sym q ∙ h)
and_false false b h p q = false≢true p

-- a value that is not true is false
pub true_or_false : (a : Bool) → (a ≡ true) ⊎ (a ≡ false)
true_or_false true = inl refl
true_or_false false = inr refl

-- by cases on a test, with what each case says of it
pub split {ℓ} : {P : Type ℓ} (b : Bool) → (b ≡ true → P) → (b ≡ false → P) → P
split true t f = t refl
split false t f = f refl

-- what equals both of two choices, each where the test says it, equals the choice
pub by_test {ℓ} : {A : Type ℓ} {x y z : A} (b : Bool) → (b ≡ true → z ≡ x) → (b ≡ false → z ≡ y) → z ≡ (elim b as (λ c. A) [ true ↦ x | false ↦ y ])
by_test true t f = t refl
by_test false t f = f refl

pub elim_and : (a b : Bool) → (elim a as (λ x. Bool) [ true ↦ b | false ↦ false ]) ≡ (a && b)
elim_and true b = refl
elim_and false b = refl

pub elim_or : (a b : Bool) → (elim a as (λ x. Bool) [ true ↦ true | false ↦ b ]) ≡ (a || b)
elim_or true b = refl
elim_or false b = refl

pub elim_not : (a b : Bool) → (elim a as (λ x. Bool) [ true ↦ false | false ↦ b ]) ≡ (not a && b)
elim_not true b = refl
elim_not false b = refl

pub or_false : (a b : Bool) → (a || b) ≡ false → (a ≡ false) × (b ≡ false)
or_false true b h = absurd (true≢false h)
or_false false b h = (refl, h)

pub or_true : (a : Bool) → (a || true) ≡ true
or_true true = refl
or_true false = refl

pub and_when : (a b : Bool) → b ≡ true → (a && b) ≡ a
and_when true b h = h
and_when false b h = refl

pub or_left : (a b : Bool) → (a || b) ≡ true → a ≡ false → b ≡ true
or_left true b h e = absurd (true≢false e)
or_left false b h e = h
