-- Plain helpers: tests and lists over a run of numbers, lists as sets, and numbers written in digits.
use Rattle.std.specs.Prelude.{Bool, true, false, List, [], ◌∷◌, ◌++◌, ℕ, zero, suc, ◌+◌, ◌*◌, ◌/◌, ◌%◌, ◌^◌, eqb}

-- the n numbers from s: does each pass the test? It stops at the first that fails
unfoldable pub every : (ℕ → Bool) → ℕ → ℕ → Bool
every test zero s = true
every test (suc n) s = elim (test s) [ true ↦ every test n (suc s) | false ↦ false ]

-- the n numbers from s: the lists of each, joined
unfoldable pub joined {ℓ} : {A : Type ℓ} → (ℕ → List A) → ℕ → ℕ → List A
joined f zero s = []
joined f (suc n) s = f s ++ joined f n (suc s)

-- each member of a list passes the test
unfoldable pub each {ℓ} : {A : Type ℓ} → (A → Bool) → List A → Bool
each test [] = true
each test (x ∷ xs) = elim (test x) [ true ↦ each test xs | false ↦ false ]

unfoldable pub member : ℕ → List ℕ → Bool
member n [] = false
member n (x ∷ xs) = elim (eqb n x) [ true ↦ true | false ↦ member n xs ]

-- no number stands twice
unfoldable pub distinct : List ℕ → Bool
distinct [] = true
distinct (x ∷ xs) = elim (member x xs) [ true ↦ false | false ↦ distinct xs ]

-- digit i of a number in a base; the lowest is digit 0
unfoldable pub digit : ℕ → ℕ → ℕ → ℕ
digit base number i = number / base ^ i % base

-- the number whose n digits are f s, f (s + 1), .., lowest first
unfoldable pub pack : ℕ → (ℕ → ℕ) → ℕ → ℕ → ℕ
pack base f zero s = 0
pack base f (suc n) s = f s + base * pack base f n (suc s)
