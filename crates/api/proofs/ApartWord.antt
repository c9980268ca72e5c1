-- A caller in C tests the word for 0, and then the domains are kept apart: a refusal's number is not 0, and the word of a fault is 256 at least.
use Rattle.std.specs.Prelude.{if◌then◌else◌}
use mathlib.Core.Path.{◌≡◌, refl}
use mathlib.Core.Bool.{Bool, true, false, ◌&&◌, ◌||◌}
use mathlib.Core.List.{List, [], ◌∷◌, ◌++◌, head_d}
use Prim.Native.Nat.{ℕ, zero, suc}
use native.Mathlib.Omega.{arith}
use lib.Dec.{eqb, ltb}
use borrow.Author.Tests.{eqb-false}
use Rattle.model.specs.Numbers.{joined}
use Rattle.model.specs.Layout.{slot_count}
use Rattle.model.specs.Frame.{Frame, space}
use Rattle.model.specs.Sound.{Slot}
use Rattle.model.specs.Apart.{Strength, Separation, apart, table_open, page_shared, opens, writes, reaches, table_page, by_slot, table_fault, pair_fault, faults_at, separation, apart_refusal, apart_answer}
use Rattle.types.specs.Codes.{known, separation_word}
use Rattle.api.specs.CallWords.{apart_word}

-- an answer whose word is 0 only if it is `apart`
abbrev Plain : Separation → Type 0
Plain x = separation_word x ≡ 0 → x ≡ apart

table_plain : (page i : ℕ) (w : Bool) → Plain (table_open page i w)
table_plain page i w h = absurd (omega (arith, h))

shared_plain : (page i j : ℕ) (w : Bool) → Plain (page_shared page i j w)
shared_plain page i j w h = absurd (omega (arith, h))

either_plain : (b : Bool) {x y : Separation} → Plain x → (b ≡ false → Plain y) → Plain (if b then x else y)
either_plain true p q = p
either_plain false p q = q refl

-- ---- the first of a list

abbrev First : List Separation → Type 0
First l = Plain (head_d l apart)

first_if : (b : Bool) (x : Separation) → Plain x → First (if b then x ∷ [] else [])
unfolding head_d
first_if true x p = p
first_if false x p = λ h. refl

first_append : (l l' : List Separation) → First l → First l' → First (l ++ l')
unfolding head_d
first_append [] l' p p' = p'
first_append (x ∷ l) l' p p' = p

first_joined : (g : ℕ → List Separation) (n s : ℕ) → ((k : ℕ) → First (g k)) → First (joined g n s)
unfolding joined head_d
first_joined g zero s p = λ h. refl
first_joined g (suc n) s p = first_append (g s) (joined g n (suc s)) (p s) (first_joined g n (suc s) p)

module _ (F : Frame) (m : List ℕ) (slots : List Slot) (s : Strength) where
  abbrev opened : ℕ → ℕ → Bool
  opened i page = by_slot F m slots (opens F m) i page

  abbrev reached : ℕ → ℕ → Bool
  reached i page = by_slot F m slots (reaches F m s) i page

  abbrev written : ℕ → ℕ → Bool
  written i page = by_slot F m slots (writes F m) i page

  faults_plain : (page : ℕ) → First (faults_at F m slots s page)
  unfolding faults_at table_fault pair_fault
  faults_plain page =
      first_append (joined (table_fault F m slots s page) slot_count 0) (joined (λ i. joined (pair_fault F m slots s page i) slot_count 0) slot_count 0)
      (first_joined (table_fault F m slots s page) slot_count 0 (λ i. first_if (table_page F m slots page && reached i page) (table_open page i (written i page)) (table_plain page i (written i page))))
      (first_joined (λ i. joined (pair_fault F m slots s page i) slot_count 0) slot_count 0
      (λ i. first_joined (pair_fault F m slots s page i) slot_count 0 (λ j.
      let w : Bool = written i page || written j page in
      first_if (ltb i j && (opened i page && reached j page || reached i page && opened j page)) (page_shared page i j w) (shared_plain page i j w))))

  pub word_apart : apart_word F m slots (known s) ≡ 0 → apart_answer F m slots s ≡ apart
  unfolding apart_answer separation
  word_apart =
      either_plain (eqb (apart_refusal F m slots) 0)
      (first_joined (faults_at F m slots s) (space F) 0 faults_plain)
      (λ z h. absurd (eqb-false (apart_refusal F m slots) 0 z h))
