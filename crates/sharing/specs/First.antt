-- The first number of a run that passes a test.
use Rattle.std.specs.Prelude.{◌≡◌, Bool, true, false, ℕ, Option, ◌+◌, ◌≤◌, ◌<◌, Some, None}

-- of the n numbers from s the first that passes is s + r; if r is n, none does
pub record First (test : ℕ → Bool) (s n r : ℕ) : Type 0 where
  pub within : r ≤ n
  pub passes : r < n → test (s + r) ≡ true
  pub before : (k : ℕ) → k < r → test (s + k) ≡ false

-- the same of an answer that is none where no number passes
abbrev pub FirstOf : (ℕ → Bool) → ℕ → ℕ → Option ℕ → Type 0
FirstOf test s n (Some r) = (r < n) × First test s n r
FirstOf test s n None = First test s n n
