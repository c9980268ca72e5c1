-- The pages in use, taken apart: the pages of the roots, and the pages that entries name.
use mathlib.Core.Path.{◌≡◌, ap, ◌∙◌}
use mathlib.Core.Bool.{Bool, true, false}
use mathlib.Core.List.{List, [], ◌∷◌, ◌++◌}
use Prim.Native.Nat.{ℕ, ◌+◌}
use native.Mathlib.Omega.{arith}
use Rattle.model.specs.Entry.{Entry, flat, invalid, pieces, table}
use Rattle.model.specs.Frame.{Frame, blocks}
use Rattle.model.specs.Walk.{entry_at, root_pages}
use Rattle.model.specs.Sound.{link_of, links_in, used}
use Rattle.laws.proofs.Sums.{Measure, joined_measure, sum, total}

-- an entry passes the rules of its word
unfoldable pub passes : Entry → Bool
passes (flat p) = true
passes (pieces info) = true
passes (table page) = true
passes invalid = false

module _ (F : Frame) where
  -- the pages of these roots
  unfoldable pub pages_of : List ℕ → List ℕ
  pages_of [] = []
  pages_of (root ∷ rs) = root_pages F root ++ pages_of rs

  -- the pages that their TYPE 4 entries name
  unfoldable pub links : List ℕ → List ℕ → List ℕ
  links m [] = []
  links m (root ∷ rs) = links_in F m root ++ links m rs

  -- ---- what adds up over joined lists, over these

  module _ (μ : List ℕ → ℕ) (h : Measure μ) where
    pub pages_measure : (rs : List ℕ) → μ (pages_of rs) ≡ total (λ r. μ (root_pages F r)) rs
    unfolding pages_of total
    pages_measure [] = h.none
    pages_measure (r ∷ rs) = h.join (root_pages F r) (pages_of rs) ∙ ap (λ (k : ℕ). μ (root_pages F r) + k) (pages_measure rs)

    pub links_in_measure : (m : List ℕ) (r : ℕ) → μ (links_in F m r) ≡ sum (λ b. μ (link_of (entry_at F m r b))) (blocks F) 0
    unfolding links_in
    links_in_measure m r = joined_measure μ h (λ b. link_of (entry_at F m r b)) (blocks F) 0

    pub links_measure : (m rs : List ℕ) → μ (links m rs) ≡ total (λ r. μ (links_in F m r)) rs
    unfolding links total
    links_measure m [] = h.none
    links_measure m (r ∷ rs) = h.join (links_in F m r) (links m rs) ∙ ap (λ (k : ℕ). μ (links_in F m r) + k) (links_measure m rs)

    pub used_measure : (m rs : List ℕ) → μ (used F m rs) ≡ μ (pages_of rs) + μ (links m rs)
    unfolding used pages_of links
    used_measure m [] = omega (arith, h.none)
    used_measure m (r ∷ rs) =
        omega (
          arith,
          h.join (root_pages F r) (links_in F m r ++ used F m rs),
          h.join (links_in F m r) (used F m rs),
          used_measure m rs,
          h.join (root_pages F r) (pages_of rs),
          h.join (links_in F m r) (links m rs),
        )
