-- The free pages: which they are, and how many.
use Rattle.std.specs.Prelude.{if◌then◌else◌}
use mathlib.Core.Path.{◌≡◌, sym, ap, ◌∙◌, subst}
use mathlib.Core.Bool.{true, false, ◌&&◌, true≢false}
use mathlib.Core.List.{List, [], ◌∷◌}
use Prim.Native.Nat.{ℕ, ◌+◌, ◌≤◌, ◌<◌}
use native.Mathlib.Nat.{mul-one, mul-zero}
use native.Mathlib.Omega.{arith}
use lib.Dec.{leb, ltb}
use lib.ListN.{length}
use borrow.Author.Tests.{ltb-true, ltb-false, leb-true}
use Rattle.model.specs.Numbers.{member}
use Rattle.model.specs.Frame.{Frame, lent}
use Rattle.model.specs.Sound.{free_of, free_pages, used}
use Rattle.laws.proofs.Choices.{and_false, and_true, split}
use Rattle.laws.proofs.Sums.{joined_measure, length_measure, sum, sum_add, sum_change, sum_cong, sum_const, sum_le, sum_some, times_measure}
use Rattle.laws.proofs.Times.{member_none, member_some, times, times_append, times_here, times_none, times_one, times_other, times_single}
use Rattle.theory.proofs.Used.{links, pages_of, used_measure}
use Rattle.theory.proofs.Memory.{is_lent_lem, lent_high, lent_low}
use Rattle.theory.proofs.Tables.{Sound}

-- ---- one number among the n numbers from s

one_in : (y n s : ℕ) → s ≤ y → y < s + n → sum (λ k. times k (y ∷ [])) n s ≡ 1
one_in y n s l u =
    omega (
      arith,
      sum_change (λ k. 0) (λ k. times k (y ∷ [])) y n s (λ k lo hi ne. times_other k y ne) l u,
      sum_const 0 n s,
      mul-zero n,
      times_one y,
    )

pub at_most_one : (x n s : ℕ) → sum (λ k. times x (k ∷ [])) n s ≤ 1
at_most_one x n s =
    split (leb s x && ltb x (s + n))
    (λ z. let both = Rattle.laws.proofs.Choices.and_true (leb s x) (ltb x (s + n)) z in
    omega (
      arith,
      sum_change (λ k. 0) (λ k. times x (k ∷ [])) x n s (λ k lo hi ne. times_other x k (λ y. ne (sym y))) (leb-true s x both.0) (ltb-true x (s + n) both.1),
      sum_const 0 n s,
      mul-zero n,
      times_one x,
    ))
    (λ z.
    omega (
      arith,
      sum_cong (λ k. times x (k ∷ [])) (λ k. 0) n s
          (λ k lo hi. times_other x k (λ y. Rattle.laws.proofs.Choices.and_false (leb s x) (ltb x (s + n)) z
          (borrow.Author.Tests.le-leb s x (omega (arith, y))) (borrow.Author.Tests.lt-ltb x (s + n) (omega (arith, y))))),
      sum_const 0 n s,
      mul-zero n,
    ))

pub not_member : (k : ℕ) (used : List ℕ) → member k used ≡ false → times k used ≡ 0
not_member k used h =
    split (ltb 0 (times k used))
    (λ z. absurd (true≢false (sym (member_some k used (ltb-true 0 (times k used) z)) ∙ h)))
    (λ z. omega (arith, ltb-false 0 (times k used) z))

module _ (F : Frame) (taken : List ℕ) where
  -- what a lent page adds to the list
  abbrev pick : ℕ → List ℕ
  pick k = if member k taken then [] else k ∷ []

  pub free_in : (x : ℕ) → 0 < times x (free_of F taken) → (lent F x ≡ true) × (times x taken ≡ 0)
  unfolding free_of
  free_in x h =
      let k = sum_some (λ j. times x (pick j)) F.pages F.first (omega (arith, h, joined_measure (times x) (times_measure x) pick F.pages F.first)) in
      split (member k.0 taken)
      (λ z. let none : 0 < times x [] = rw z at k.3 in absurd (omega (arith, times_none x)))
      (λ z. let one : 0 < times x (k.0 ∷ []) = rw z at k.3 in
      let same : x ≡ k.0 = times_single x k.0 one in (
        subst (λ (y : ℕ). lent F y ≡ true) (sym same) (is_lent_lem F k.0 k.1 k.2),
        ap (λ (y : ℕ). times y taken) same ∙ not_member k.0 taken z,
      ))

  pub free_once : (x : ℕ) → times x (free_of F taken) ≤ 1
  unfolding free_of
  free_once x =
      omega (
        arith,
        joined_measure (times x) (times_measure x) pick F.pages F.first,
        sum_le (λ j. times x (pick j)) (λ j. times x (j ∷ [])) F.pages F.first
            (λ k lo hi. split (member k taken) (λ z. rw z (omega (arith, times_none x))) (λ z. rw z (omega arith))),
        at_most_one x F.pages F.first,
      )

  used_sum : (us : List ℕ) → ((x : ℕ) → 0 < times x us → lent F x ≡ true) → sum (λ k. times k us) F.pages F.first ≡ length us
  used_sum [] h =
      sum_cong (λ k. times k []) (λ k. 0) F.pages F.first (λ k lo hi. times_none k)
      ∙ sum_const 0 F.pages F.first ∙ mul-zero F.pages
  used_sum (y ∷ ys) h =
      let here : 0 < times y (y ∷ ys) = omega (arith, times_here y ys) in
      let rest : sum (λ k. times k ys) F.pages F.first ≡ length ys
      = used_sum ys (λ x l. h x (omega (arith, times_append x (y ∷ []) ys, l))) in
      omega (
        arith,
        sum_cong (λ k. times k (y ∷ ys)) (λ k. times k (y ∷ []) + times k ys) F.pages F.first (λ k lo hi. times_append k (y ∷ []) ys),
        sum_add (λ k. times k (y ∷ [])) (λ k. times k ys) F.pages F.first,
        one_in y F.pages F.first (lent_low F y (h y here)) (lent_high F y (h y here)),
        rest,
      )

  -- free pages and pages in use are all the lent pages
  pub free_count_lem : ((x : ℕ) → 0 < times x taken → lent F x ≡ true) → ((x : ℕ) → times x taken ≤ 1) → length (free_of F taken) + length taken ≡ F.pages
  unfolding free_of
  free_count_lem lentAll once =
      omega (
        arith,
        joined_measure (λ l. length l) length_measure pick F.pages F.first,
        used_sum taken lentAll,
        sum_add (λ k. length (pick k)) (λ k. times k taken) F.pages F.first,
        sum_cong (λ k. length (pick k) + times k taken) (λ k. 1) F.pages F.first
            (λ k lo hi.
            split (ltb 0 (times k taken))
            (λ z. let some : 0 < times k taken = ltb-true 0 (times k taken) z in rw (member_some k taken some) (omega (arith, once k)))
            (λ z. let none : times k taken ≡ 0 = omega (arith, ltb-false 0 (times k taken) z) in rw (member_none k taken none) (omega arith))),
        sum_const 1 F.pages F.first,
        mul-one F.pages,
      )

-- the number of free pages of a sound table
pub sound_free : (F : Frame) (rs m : List ℕ) → Sound F rs m → length (free_pages F m rs) + (length (pages_of F rs) + length (links F m rs)) ≡ F.pages
unfolding free_pages
sound_free F rs m s =
    omega (
      arith,
      used_measure F (λ l. length l) length_measure m rs,
      free_count_lem F (used F m rs)
          (λ x l. split (ltb 0 (times x (pages_of F rs)))
          (λ z. s.roots_lent x (ltb-true 0 (times x (pages_of F rs)) z))
          (λ z. s.links_lent x (omega (arith, l, used_measure F (times x) (times_measure x) m rs, ltb-false 0 (times x (pages_of F rs)) z))))
          (λ x. omega (arith, used_measure F (times x) (times_measure x) m rs, s.once x)),
    )
