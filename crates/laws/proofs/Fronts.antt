-- The list of free pages: which of the two lowest stands at a place of it, and what is left from a place on.
use mathlib.Core.Path.{◌≡◌, refl, sym, ap, ◌∙◌}
use mathlib.Core.List.{List, [], ◌∷◌, head_d, tail}
use Prim.Native.Nat.{ℕ, zero, suc, ◌+◌, ◌≤◌, ◌<◌}
use native.Mathlib.Omega.{arith}
use native.Mathlib.Numerals.{add-one}
use lib.ListN.{length, take, drop, length-take, drop_of_length-le}

module _ (x y : ℕ) where
  abbrev pages : List ℕ
  pages = x ∷ y ∷ []

  none_left : (l : List ℕ) (n : ℕ) → length l ≤ n → head_d (drop n l) 0 ≡ 0
  unfolding head_d
  none_left l n h = ap (λ (k : List ℕ). head_d k 0) (drop_of_length-le l h)

  pub page_none : (c n : ℕ) → c ≤ n → head_d (drop n (take c pages)) 0 ≡ 0
  page_none c n h = none_left (take c pages) n (omega (arith, length-take c pages))

  pub page_past : (c n : ℕ) → 1 < n → head_d (drop n (take c pages)) 0 ≡ 0
  page_past c n h = none_left (take c pages) n (omega (arith, length-take c pages))

  pub page_first : (c : ℕ) → 0 < c → head_d (drop 0 (take c pages)) 0 ≡ x
  unfolding head_d
  page_first zero h = absurd (omega arith)
  page_first (suc c) h = refl

  pub page_second : (c : ℕ) → 1 < c → head_d (drop 1 (take c pages)) 0 ≡ y
  unfolding head_d
  page_second zero h = absurd (omega arith)
  page_second (suc zero) h = absurd (omega arith)
  page_second (suc (suc c)) h = refl

-- ---- from one on

tail_drop : (l : List ℕ) (i : ℕ) → tail (drop i l) ≡ drop (suc i) l
tail_drop [] zero = refl
tail_drop [] (suc i) = refl
tail_drop (x ∷ xs) zero = refl
tail_drop (x ∷ xs) (suc i) = tail_drop xs i

pub drop_tail : (l : List ℕ) (i : ℕ) → tail (drop i l) ≡ drop (i + 1) l
drop_tail l i = tail_drop l i ∙ ap (λ (k : ℕ). drop k l) (sym (add-one i))
