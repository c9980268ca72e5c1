-- An L1 entry as it stands, or as its L2 entry gives it; and one across an end of the range.
use Rattle.std.specs.Prelude.{List, ℕ, ◌-◌, ◌*◌, ◌/◌, ◌^◌, if◌then◌else◌}
use Rattle.model.specs.Numbers.{digit}
use Rattle.model.specs.Layout.{Layout}
use Rattle.model.specs.Entry as entry
use Rattle.model.specs.Frame as frame
use Rattle.model.specs.Forms as model

-- L1 entries of a piece
abbrev pub piece_words : Layout → ℕ
piece_words L = L.words / L.pieces

-- 1 in each of n digits
abbrev pub ones : ℕ → ℕ → ℕ
ones base n = (base ^ n - 1) / (base - 1)

-- an L1 entry whose fields are all p
abbrev pub spread_of : Layout → ℕ → ℕ
spread_of L p = p * ones 16 L.fields

-- the INFO of a block whose pieces are all of permission p
abbrev pub flat_info : Layout → ℕ → ℕ
flat_info L p = p * ones 4 L.pieces

-- L1 entry i of a block, as it stands or as its L2 entry gives it
abbrev pub old_word : frame.Frame → List ℕ → entry.Entry → ℕ → ℕ
old_word F m (entry.flat p) i = spread_of F.layout p
old_word F m (entry.pieces info) i = spread_of F.layout (digit 4 info (i / piece_words F.layout))
old_word F m (entry.table t) i = frame.word_at F m t i
old_word F m entry.invalid i = 0

-- the permission of page k, once the edit is whole, by an L1 entry as it stands, whose first page is s
abbrev pub mixed_at : model.Request → ℕ → ℕ → ℕ → ℕ
mixed_at q old s k = if model.in_range q k then q.permission else digit 16 old (k - s)
