-- One store to one entry of a lent page: which entries it changes.
use mathlib.Core.Path.{◌≡◌, sym, ap, ◌∙◌, subst}
use mathlib.Core.Bool.{true}
use mathlib.Core.Logic.{◌≢◌}
use mathlib.Core.List.{List, [], ◌∷◌}
use Prim.Native.Nat.{ℕ, zero, suc, ◌+◌, ◌*◌, ◌-◌, ◌/◌, ◌%◌, ◌≤◌, ◌<◌}
use native.Mathlib.Omega.{arith}
use lib.Arith.{digits_div, digits_mod, digits_lt}
use lib.Dec.{leb, ltb}
use lib.ListN.{length, get_or, set, length-set}
use lib.Seq.{get_or-set_same, get_or-set_other}
use borrow.Author.Tests.{ltb-true, lt-ltb, leb-true, le-leb}
use Rattle.model.specs.Frame.{Frame, index_of, lent, word_at}
use Rattle.laws.proofs.Choices.{and_both, and_true}

set_low : (N : ℕ) (m : List ℕ) (j w : ℕ) → w < N → ((i : ℕ) → get_or m i 0 < N) → (i : ℕ) → get_or (set m j w) i 0 < N
set_low N [] j w h k i = k i
set_low N (x ∷ xs) zero w h k zero = h
set_low N (x ∷ xs) zero w h k (suc i) = k (suc i)
set_low N (x ∷ xs) (suc j) w h k zero = k zero
set_low N (x ∷ xs) (suc j) w h k (suc i) = set_low N xs j w h (λ n. k (suc n)) i

module _ (F : Frame) where
  pub lent_low : (p : ℕ) → lent F p ≡ true → F.first ≤ p
  unfolding lent
  lent_low p h = leb-true F.first p (and_true (leb F.first p) (ltb p (F.first + F.pages)) h).0

  pub lent_high : (p : ℕ) → lent F p ≡ true → p < F.first + F.pages
  unfolding lent
  lent_high p h = ltb-true p (F.first + F.pages) (and_true (leb F.first p) (ltb p (F.first + F.pages)) h).1

  pub is_lent_lem : (p : ℕ) → F.first ≤ p → p < F.first + F.pages → lent F p ≡ true
  unfolding lent
  is_lent_lem p l u = and_both (le-leb F.first p l) (lt-ltb p (F.first + F.pages) u)

  -- the memory with word w at entry i of page p
  unfoldable pub put : List ℕ → ℕ → ℕ → ℕ → List ℕ
  put m p i w = set m (index_of F p i) w

  pub put_length : (m : List ℕ) (p i w : ℕ) → length (put m p i w) ≡ length m
  unfolding put
  put_length m p i w = length-set m (index_of F p i) w

  -- words below a bound stay below it
  pub put_low : (N : ℕ) (m : List ℕ) (p i w : ℕ) → w < N → ((j : ℕ) → get_or m j 0 < N) → (j : ℕ) → get_or (put m p i w) j 0 < N
  unfolding put
  put_low N m p i w h k j = set_low N m (index_of F p i) w h k j

  index_inj : (p i p' i' : ℕ) → lent F p ≡ true → lent F p' ≡ true → i < F.layout.words → i' < F.layout.words → index_of F p i ≡ index_of F p' i' → (p ≡ p') × (i ≡ i')
  unfolding index_of
  index_inj p i p' i' lp lp' h h' e =
      let same : p - F.first ≡ p' - F.first
      = sym (digits_div (p - F.first) h) ∙ ap (λ (k : ℕ). k / F.layout.words) e ∙ digits_div (p' - F.first) h' in (
        omega (arith, same, lent_low p lp, lent_low p' lp'),
        sym (digits_mod (p - F.first) h) ∙ ap (λ (k : ℕ). k % F.layout.words) e ∙ digits_mod (p' - F.first) h',
      )

  pub put_same : (m : List ℕ) (p i w : ℕ) → length m ≡ F.pages * F.layout.words → lent F p ≡ true → i < F.layout.words → word_at F (put m p i w) p i ≡ w
  unfolding put word_at index_of
  put_same m p i w sz lp h =
      get_or-set_same m ((p - F.first) * F.layout.words + i) w 0
      (subst (λ (k : ℕ). (p - F.first) * F.layout.words + i < k) (sym sz)
      (digits_lt (omega (arith, lent_low p lp, lent_high p lp)) h))

  pub put_other_page : (m : List ℕ) (p i w p' i' : ℕ) → p' ≢ p → lent F p ≡ true → lent F p' ≡ true → i < F.layout.words → i' < F.layout.words
      → word_at F (put m p i w) p' i' ≡ word_at F m p' i'
  unfolding put word_at
  put_other_page m p i w p' i' ne lp lp' h h' =
      get_or-set_other m (index_of F p i) (index_of F p' i') w 0 (λ e. ne (index_inj p' i' p i lp' lp h' h e).0)

  pub put_other_entry : (m : List ℕ) (p i w i' : ℕ) → i' ≢ i → lent F p ≡ true → i < F.layout.words → i' < F.layout.words
      → word_at F (put m p i w) p i' ≡ word_at F m p i'
  unfolding put word_at
  put_other_entry m p i w i' ne lp h h' =
      get_or-set_other m (index_of F p i) (index_of F p i') w 0 (λ e. ne (index_inj p i' p i lp lp h' h e).1)
