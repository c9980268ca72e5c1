-- The L1 page of a block: the entry that a block had before it, and the stores into its entries.
use Rattle.std.specs.Prelude.{List, [], ◌∷◌, ℕ}
use Rattle.model.specs.Numbers.{joined}
use Rattle.model.specs.Entry as entry
use Rattle.model.specs.Frame as frame
use Rattle.model.specs.Forms as model
use Rattle.model.specs.Stores as stores

-- an entry that names no page
abbrev pub Plain : entry.Entry → Type 0
Plain (entry.flat p) = Unit {0}
Plain (entry.pieces i) = Unit {0}
Plain (entry.table t) = ⊥
Plain entry.invalid = Unit {0}

-- the stores of n entries of block b's new page, from entry i on
abbrev pub new_run : frame.Frame → List ℕ → model.Request → entry.Entry → ℕ → ℕ → ℕ → ℕ → List stores.Store
new_run F m q e b new n i = joined (λ k. stores.store_at F new k (model.l1_word F m q e b k) ∷ []) n i

-- those of n entries of its own page t, from entry i on, that change
abbrev pub own_run : frame.Frame → List ℕ → model.Request → ℕ → ℕ → ℕ → ℕ → List stores.Store
own_run F m q t b n i = joined (λ k. stores.if_changed F m t k (model.l1_word F m q (entry.table t) b k)) n i
