-- Rows of neighbouring words: each stored if it changes, or all stored.
use Rattle.std.specs.Prelude.{◌≡◌, Bool, not, List, [], ◌∷◌, ℕ, ◌+◌, ◌*◌, ◌^◌, ◌≤◌, ◌<◌, eqb, get_or, if◌then◌else◌}
use Rattle.model.specs.Numbers.{joined}
use Rattle.model.specs.Layout.{Layout}
use Rattle.model.specs.Entry as entry
use Rattle.model.specs.Stores as stores
use Rattle.shapes.specs.Words.{flat_info}
use Rattle.shapes.specs.Ahead.{Ahead}

-- the store of word k, which is to become what `to` makes of it, if it changes; and those of n words from at
abbrev pub change_at : List ℕ → (ℕ → ℕ) → ℕ → List stores.Store
change_at m to k = if eqb (get_or m k 0) (to (get_or m k 0)) then [] else record { at = k; word = to (get_or m k 0) } ∷ []

abbrev pub row_stores : List ℕ → (ℕ → ℕ) → ℕ → ℕ → List stores.Store
row_stores m to n at = joined (change_at m to) n at

-- those of n words from at that are all stored
abbrev pub fill_stores : ℕ → ℕ → ℕ → List stores.Store
fill_stores word n at = joined (λ k. record { at = k; word = word } ∷ []) n at

-- word k is another than this one
abbrev pub differs : List ℕ → ℕ → ℕ → Bool
differs m word k = not (eqb (get_or m k 0) word)

-- the entry by pieces that says the same as an entry without an L1 page; zero for any other
abbrev pub entry_as_pieces : Layout → entry.Entry → ℕ
entry_as_pieces L (entry.flat p) = L.piece_type * 2 ^ L.info_bits + flat_info L p
entry_as_pieces L (entry.pieces info) = L.piece_type * 2 ^ L.info_bits + info
entry_as_pieces L (entry.table t) = 0
entry_as_pieces L entry.invalid = 0

abbrev pub word_as_pieces : Layout → ℕ → ℕ
word_as_pieces L w = entry_as_pieces L (entry.decode L w)

-- ahead is the row of the words from at, n at the most, up to the first with an L1 page
abbrev pub PiecesAhead : Layout → List ℕ → ℕ → ℕ → Type 0
PiecesAhead L m n at =
    (c : ℕ) → c ≤ n → ((k : ℕ) → at ≤ k → k < at + c → word_as_pieces L (get_or m k 0) ≡ 0 → ⊥) → Ahead m (row_stores m (word_as_pieces L) c at)
