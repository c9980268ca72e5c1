-- The marked pages: there is none, or they are the lowest and those that are marked once it has lost its mark. The same of those from a place on.
use Rattle.std.specs.Prelude.{if◌then◌else◌}
use mathlib.Core.Path.{◌≡◌, refl, sym, ap, ap₂, ◌∙◌}
use mathlib.Core.Bool.{Bool, true, false, not, ◌&&◌, true≢false}
use mathlib.Core.List.{List, [], ◌∷◌, ◌++◌}
use Prim.Native.Nat.{ℕ, zero, suc, ◌+◌, ◌-◌, ◌≤◌, ◌<◌}
use native.Mathlib.Omega.{arith}
use lib.Dec.{eqb, ltb}
use borrow.Author.Tests.{eqb-true, eqb-false, eq-eqb, ne_eqb, ltb-true, ltb-false, not-true}
use Rattle.model.specs.Numbers.{joined}
use Rattle.model.specs.Frame.{Frame}
use Rattle.laws.proofs.Choices.{split, and_true}
use Rattle.laws.proofs.Lists.{joined_cong, joined_none, joined_skip}
use Rattle.marks.specs.Marks.{Marks, mark_at, unmark}
use Rattle.marks.proofs.Laws.{unmark_others}
use Rattle.scan.specs.FreeMarks.{marked_at, marked_pages}

abbrev with_page : Bool → ℕ → List ℕ
with_page marked page = if marked then page ∷ [] else []

-- page r is marked, and none below it
module _ (first : ℕ) (k : Marks) (r : ℕ) (here : first ≤ r) (is_marked : mark_at k (r - first) ≡ true) where
  left : Marks
  left = unmark k (r - first)

  gone : mark_at left (r - first) ≡ false
  unfolding left
  gone = unmark_others k (r - first) (r - first) ∙ ap (λ (b : Bool). not b && mark_at k (r - first)) (eq-eqb (r - first) (r - first) (omega arith))

  kept : (page : ℕ) → first ≤ page → (page ≡ r → ⊥) → mark_at k (page - first) ≡ mark_at left (page - first)
  unfolding left
  kept page l ne =
      sym (unmark_others k (r - first) (page - first) ∙ ap (λ (b : Bool). not b && mark_at k (page - first)) (ne_eqb (r - first) (page - first) (λ e. ne (omega arith))))

  lowest_first : (n s : ℕ) → first ≤ s → s ≤ r → r < s + n → ((page : ℕ) → s ≤ page → page < r → mark_at k (page - first) ≡ false)
      → joined (marked_at first k) n s ≡ r ∷ joined (marked_at first left) n s
  unfolding joined
  lowest_first zero s lo hi within below = absurd (omega arith)
  lowest_first (suc n) s lo hi within below =
      split (eqb s r) (λ e. at (eqb-true s r e))
      (λ e. let ne = eqb-false s r e in before ne (lowest_first n (suc s) (omega arith) (omega (arith, ne)) (omega arith) (λ page l u. below page (omega arith) u)))
    where
      at : s ≡ r → joined (marked_at first k) (suc n) s ≡ r ∷ joined (marked_at first left) (suc n) s
      at e =
          ap₂ (λ (b : Bool) (page : ℕ). with_page b page ++ joined (marked_at first k) n (suc s)) (ap (λ (page : ℕ). mark_at k (page - first)) e ∙ is_marked) e
          ∙ ap (λ (rest : List ℕ). r ∷ rest) (joined_cong _ _ n (suc s) (λ page l u. ap (λ (b : Bool). with_page b page) (kept page (omega arith) (λ q. omega arith))))
          ∙ ap (λ (b : Bool). r ∷ (with_page b s ++ joined (marked_at first left) n (suc s))) (sym (ap (λ (page : ℕ). mark_at left (page - first)) e ∙ gone))

      before : (s ≡ r → ⊥) → joined (marked_at first k) n (suc s) ≡ r ∷ joined (marked_at first left) n (suc s)
          → joined (marked_at first k) (suc n) s ≡ r ∷ joined (marked_at first left) (suc n) s
      before ne rest =
          let none = below s (omega arith) (omega (arith, ne)) in
          ap (λ (b : Bool). with_page b s ++ joined (marked_at first k) n (suc s)) none
          ∙ rest
          ∙ ap (λ (b : Bool). r ∷ (with_page b s ++ joined (marked_at first left) n (suc s))) (sym (sym (kept s lo ne) ∙ none))

-- no mark below r stands
module _ (F : Frame) (k : Marks) (r : ℕ) (below : (i : ℕ) → i < r → mark_at k i ≡ false) where
  pub none_marked : F.pages ≤ r → marked_pages F k ≡ []
  unfolding marked_pages
  none_marked past = joined_none _ F.pages F.first (λ page l u. ap (λ (b : Bool). with_page b page) (below (page - F.first) (omega arith)))

  pub lowest_picked : r < F.pages → mark_at k r ≡ true → marked_pages F k ≡ (F.first + r) ∷ marked_pages F (unmark k r)
  unfolding marked_pages left
  lowest_picked within is_marked =
      let e : F.first + r - F.first ≡ r = omega arith in
      lowest_first F.first k (F.first + r) (omega arith) (ap (mark_at k) e ∙ is_marked) F.pages F.first (omega arith) (omega arith) (omega arith)
      (λ page l u. below (page - F.first) (omega arith))
      ∙ ap (λ (i : ℕ). (F.first + r) ∷ joined (marked_at F.first (unmark k i)) F.pages F.first) e

-- ---- those from a place on

module _ (k : Marks) (first pages : ℕ) where
  -- the marked pages among n from place i
  unfoldable pub marked_from : ℕ → ℕ → List ℕ
  marked_from n i = joined (marked_at first k) n (first + i)

  pub marked_all : (n i : ℕ) → n ≡ pages → i ≡ 0 → marked_from n i ≡ joined (marked_at first k) pages first
  unfolding marked_from
  marked_all n i p q = let e : first + i ≡ first = omega arith in ap₂ (joined (marked_at first k)) p e

  -- the search for the lowest mark from place i on says r
  module _ (i r : ℕ) (clear : (x : ℕ) → i ≤ x → x < r → mark_at k x ≡ false) where
    passed_over : (page : ℕ) → first + i ≤ page → page < first + r → marked_at first k page ≡ []
    passed_over page l u = ap (λ (b : Bool). with_page b page) (clear (page - first) (omega arith) (omega arith))

    -- past the last place: there is none
    pub marked_none : pages ≤ r → i ≤ pages → marked_from (pages - i) i ≡ []
    unfolding marked_from
    marked_none past lo = joined_none _ (pages - i) (first + i) (λ page l u. passed_over page l (omega arith))

    -- a mark that stands there: its page heads the list
    pub marked_next : i ≤ r → r < pages → mark_at k r ≡ true → marked_from (pages - i) i ≡ (first + r) ∷ marked_from (pages - (r + 1)) (r + 1)
    unfolding marked_from joined
    marked_next lo h z =
        let n : ℕ = pages - (r + 1) in
        let u : pages - i ≡ r - i + suc n = omega arith in
        let v : first + i + (r - i) ≡ first + r = omega arith in
        let w : suc (first + r) ≡ first + (r + 1) = omega arith in
        let e : first + r - first ≡ r = omega arith in
        ap (λ (x : ℕ). joined (marked_at first k) x (first + i)) u
        ∙ joined_skip (marked_at first k) (r - i) (suc n) (first + i) (λ page l t. passed_over page l (omega arith))
        ∙ ap (joined (marked_at first k) (suc n)) v
        ∙ ap (λ (b : Bool). with_page b (first + r) ++ joined (marked_at first k) n (suc (first + r))) (ap (mark_at k) e ∙ z)
        ∙ ap (λ (x : ℕ). (first + r) ∷ joined (marked_at first k) n x) w

-- the lowest mark but r, where r was the lowest: it lies above r
module _ (k : Marks) (r : ℕ) (low : (x : ℕ) → x < r → mark_at k x ≡ false) (n : ℕ) where
  pub next_clear : ((x : ℕ) → x < n → mark_at (unmark k r) x ≡ false) → (x : ℕ) → r + 1 ≤ x → x < n → mark_at k x ≡ false
  next_clear clear x lo hi =
      ap (λ (b : Bool). not b && mark_at k x) (sym (ne_eqb r x (λ e. omega arith))) ∙ sym (unmark_others k r x) ∙ clear x hi

  pub next_stands : mark_at (unmark k r) n ≡ true → (r + 1 ≤ n) × (mark_at k n ≡ true)
  next_stands h =
      let both = and_true (not (eqb r n)) (mark_at k n) (sym (unmark_others k r n) ∙ h) in
      (go (ltb n r) refl both.1 (not-true (eqb r n) both.0), both.1)
    where
      go : (b : Bool) → ltb n r ≡ b → mark_at k n ≡ true → eqb r n ≡ false → r + 1 ≤ n
      go true e stands ne = absurd (true≢false (sym stands ∙ low n (ltb-true n r e)))
      go false e stands ne = let other : r ≡ n → ⊥ = eqb-false r n ne in omega (arith, ltb-false n r e, other)
