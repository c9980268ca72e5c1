-- A word of a page, read by way of the page's parts: the same, and quick where many words of one page are read.
-- The idea: to read element i of a list takes i steps. The parts of a page, 16 words each, are made once, and then a word takes few.
use mathlib.Core.Path.{◌≡◌, refl, sym, ap, ◌∙◌}
use mathlib.Core.Bool.{true, false}
use mathlib.Core.List.{List, [], ◌∷◌}
use Prim.Native.Nat.{ℕ, zero, suc, ◌+◌, ◌*◌, ◌-◌, ◌/◌, ◌%◌, ◌<◌}
use native.Mathlib.Nat.{le_of_suc-le-suc, not-suc-le-zero}
use native.Mathlib.Omega.{arith}
use lib.Dec.{ltb}
use lib.ListN.{get_or, take, drop}
use lib.Seq.{get_or-take, get_or-drop}
use borrow.Author.Tests.{ltb-true}
use Rattle.model.specs.Frame.{Frame, index_of, word_at}
use Rattle.laws.proofs.Choices.{by_test}

-- n parts of 16 words each
unfoldable pub parts : ℕ → List ℕ → List (List ℕ)
parts zero l = []
parts (suc n) l = take 16 l ∷ parts n (drop 16 l)

part_is : (n j i : ℕ) (l : List ℕ) → j < n → i < 16 → get_or (get_or (parts n l) j []) i 0 ≡ get_or l (j * 16 + i) 0
unfolding parts
part_is zero j i l h u = absurd (not-suc-le-zero h)
part_is (suc n) zero i l h u =
    let z : i ≡ 0 * 16 + i = omega arith in
    get_or-take 16 l i 0 u ∙ ap (λ (k : ℕ). get_or l k 0) z
part_is (suc n) (suc j) i l h u =
    let z : 16 + (j * 16 + i) ≡ suc j * 16 + i = omega arith in
    part_is n j i (drop 16 l) (le_of_suc-le-suc h) u ∙ get_or-drop 16 l (j * 16 + i) 0 ∙ ap (λ (k : ℕ). get_or l k 0) z

module _ (F : Frame) (m : List ℕ) where
  unfoldable pub page_parts : ℕ → List (List ℕ)
  page_parts page = parts (F.layout.words / 16) (drop (index_of F page 0) m)

  unfoldable pub peek : ℕ → ℕ → ℕ
  peek page i =
      elim (ltb (i / 16) (F.layout.words / 16)) [ true ↦ get_or (get_or (page_parts page) (i / 16) []) (i % 16) 0 | false ↦ word_at F m page i ]

  pub word_is_peek : (page i : ℕ) → word_at F m page i ≡ peek page i
  unfolding peek page_parts word_at index_of
  word_is_peek page i =
      by_test (ltb (i / 16) (F.layout.words / 16))
      (λ h. let at : (page - F.first) * F.layout.words + i ≡ ((page - F.first) * F.layout.words + 0) + (i / 16 * 16 + i % 16) = omega arith in
      ap (λ (k : ℕ). get_or m k 0) at
      ∙ sym (get_or-drop (index_of F page 0) m (i / 16 * 16 + i % 16) 0)
      ∙ sym (part_is (F.layout.words / 16) (i / 16) (i % 16) (drop (index_of F page 0) m) (ltb-true _ _ h) (omega arith)))
      (λ h. refl)
