-- The first number of a run that passes a test, by parts of the run.
use Rattle.std.specs.Prelude.{Option, Some, None}
use mathlib.Core.Path.{◌≡◌, sym, ap, ◌∙◌}
use mathlib.Core.Bool.{Bool, true, false}
use Prim.Native.Nat.{ℕ, ◌+◌, ◌-◌, ◌≤◌, ◌<◌}
use native.Mathlib.Nat.{zero-add}
use native.Mathlib.Omega.{arith}
use lib.Dec.{ltb}
use borrow.Author.Tests.{ltb-true, ltb-false}
use Rattle.laws.proofs.Choices.{split}
use Rattle.sharing.specs.First.{First, FirstOf}

-- none of the n numbers from s passes
abbrev pub NoneOf : (ℕ → Bool) → ℕ → ℕ → Type 0
NoneOf test s n = (k : ℕ) → k < n → test (s + k) ≡ false

module _ (test : ℕ → Bool) (s : ℕ) where
  pub none_yet : NoneOf test s 0
  none_yet k h = absurd (omega arith)

  pub none_at_all : (n : ℕ) → NoneOf test s n → First test s n n
  none_at_all n none = record { within = omega arith; passes = λ h. absurd (omega arith); before = none }

  module _ (a : ℕ) (none : NoneOf test s a) where
    -- none of a numbers, and what is known of the w that follow
    further : (end : ℕ) → ((k : ℕ) → k < end → test (s + a + k) ≡ false) → NoneOf test s (a + end)
    further end rest k h =
        split (ltb k a)
        (λ q. none k (ltb-true k a q))
        (λ q. let l : a ≤ k = ltb-false k a q in
        let e : s + k ≡ s + a + (k - a) = omega arith in
        ap test e ∙ rest (k - a) (omega arith))

    pub none_next : (w : ℕ) → FirstOf test (s + a) w None → NoneOf test s (a + w)
    none_next w f = further w f.before

    pub found_after : (w n r : ℕ) → FirstOf test (s + a) w (Some r) → a + w ≤ n → FirstOf test s n (Some (a + r))
    found_after w n r f fits = (
      omega (arith, f.0),
      record {
        within = omega (arith, f.0);
        passes = λ h. let e : s + (a + r) ≡ s + a + r = omega arith in ap test e ∙ f.1.passes f.0;
        before = further r f.1.before;
      },
    )

-- one number at a time, counted from 0
module _ (test : ℕ → Bool) (a : ℕ) (none : NoneOf test 0 a) where
  pub found_next : (n : ℕ) → a < n → test a ≡ true → FirstOf test 0 n (Some a)
  found_next n u h = (u, record { within = omega arith; passes = λ l. ap test (zero-add a) ∙ h; before = none })

  pub none_one : test a ≡ false → NoneOf test 0 (a + 1)
  none_one h k u =
      split (ltb k a)
      (λ q. none k (ltb-true k a q))
      (λ q. let e : 0 + k ≡ a = omega (arith, ltb-false k a q) in ap test e ∙ h)

-- the same of a test that agrees with it
pub first_same : (test test' : ℕ → Bool) (s s' n r : ℕ) → ((k : ℕ) → k < n → test' (s' + k) ≡ test (s + k)) → First test s n r → First test' s' n r
first_same test test' s s' n r same f =
    record {
      within = f.within;
      passes = λ h. same r h ∙ f.passes h;
      before = λ k h. same k (omega (arith, f.within)) ∙ f.before k h;
    }

module _ (test test' : ℕ → Bool) (s s' n : ℕ) (same : (k : ℕ) → k < n → test' (s' + k) ≡ test (s + k)) where
  pub found_same : (r : Option ℕ) → FirstOf test s n r → FirstOf test' s' n r
  found_same (Some r) f = (f.0, first_same test test' s s' n r same f.1)
  found_same None f = first_same test test' s s' n n same f

-- from a run that is counted from 0
pub found_there : (test test' : ℕ → Bool) (s n : ℕ) (r : Option ℕ) → ((k : ℕ) → k < n → test' (s + k) ≡ test k) → FirstOf test 0 n r → FirstOf test' s n r
found_there test test' s n r same = found_same test test' 0 s n (λ k u. same k u ∙ ap test (sym (zero-add k))) r
