-- The pages of the roots, and where their entries stand. The first three laws are all that the theory knows of a root's shape.
use mathlib.Core.Path.{◌≡◌, ap}
use mathlib.Core.Logic.{◌≢◌}
use mathlib.Core.List.{List}
use Prim.Native.Nat.{ℕ, ◌≤◌, ◌<◌}
use native.Mathlib.Nat.{mul-le-mul_left, mul-one}
use native.Mathlib.Omega.{arith}
use Rattle.model.specs.Frame.{Frame, blocks}
use Rattle.model.specs.Walk.{entry_page, entry_place, root_pages}
use Rattle.laws.proofs.Sums.{times_measure, total_one, total_times, total_two}
use Rattle.laws.proofs.Times.{times, times_one}
use Rattle.theory.proofs.Used.{pages_measure, pages_of}
use Rattle.theory.proofs.Frames.{Ok, blocks_words}

module _ (F : Frame) (ok : Ok F) where
  pub place_lt : (b : ℕ) → b < blocks F → entry_place F b < F.layout.words
  unfolding entry_place
  place_lt b u = omega (arith, blocks_words F ok)

  pub page_in : (r b : ℕ) → b < blocks F → 0 < times (entry_page F r b) (root_pages F r)
  unfolding entry_page root_pages
  page_in r b u = omega (arith, times_one r)

  pub place_inj : (r b c : ℕ) → b < blocks F → c < blocks F → entry_page F r b ≡ entry_page F r c → entry_place F b ≡ entry_place F c → b ≡ c
  unfolding entry_place
  place_inj r b c ub uc p e = e

  -- ---- what follows

  module _ (rs : List ℕ) where
    pub page_of_lem : (r b : ℕ) → 0 < times r rs → b < blocks F → 0 < times (entry_page F r b) (pages_of F rs)
    page_of_lem r b l u =
        let p : ℕ = entry_page F r b in
        omega (arith, pages_measure F (times p) (times_measure p) rs, total_one (λ x. times p (root_pages F x)) r rs l, page_in r b u)

    module _ (once : (x : ℕ) → times x (pages_of F rs) ≤ 1) where
      -- two roots share no page
      pub pages_apart : (r r' b c : ℕ) → 0 < times r rs → 0 < times r' rs → b < blocks F → c < blocks F → r ≢ r' → entry_page F r b ≢ entry_page F r' c
      pages_apart r r' b c l l' u u' ne e =
          let p : ℕ = entry_page F r b in
          omega (
            arith,
            once p,
            pages_measure F (times p) (times_measure p) rs,
            total_two (λ x. times p (root_pages F x)) r r' rs ne l l',
            page_in r b u,
            page_in r' c u',
            ap (λ (x : ℕ). times x (root_pages F r')) e,
          )

      -- no root stands twice
      pub root_once : (r : ℕ) → 0 < blocks F → 0 < times r rs → times r rs ≡ 1
      root_once r u l =
          let p : ℕ = entry_page F r 0 in
          omega (
            arith,
            once p,
            pages_measure F (times p) (times_measure p) rs,
            total_times (λ x. times p (root_pages F x)) r rs,
            mul-le-mul_left (times r rs) (page_in r 0 u),
            mul-one (times r rs),
          )
