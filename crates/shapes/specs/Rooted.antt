-- What a sound table says of an entry and of a root: the form in which the code's contracts use it.
use Rattle.std.specs.Prelude.{◌≡◌, true, List, ℕ, ◌-◌, ◌^◌, ◌≤◌, ◌<◌}
use Rattle.model.specs.Entry.{Entry, flat, pieces, table, invalid, clean}
use Rattle.model.specs.Frame.{Frame, lent, blocks, word_at}
use Rattle.model.specs.Walk.{entry_at}

-- of an entry: a permission is one of four, also of each piece; an L1 page is lent, and no reserved bit is set in it; none is invalid
abbrev pub Good : Frame → List ℕ → Entry → Type 0
Good F m (flat p) = p < 4
Good F m (pieces i) = i < 4 ^ F.layout.pieces
Good F m (table t) = (lent F t ≡ true) × ((i : ℕ) → i < F.layout.words → clean F.layout (word_at F m t i) ≡ true)
Good F m invalid = ⊥

-- of a root: it is lent, its blocks are no more than the widest address space has, and the entry of each is good
pub record Rooted (F : Frame) (m : List ℕ) (root : ℕ) : Type 0 where
  pub is_lent : lent F root ≡ true
  pub few : blocks F ≤ 2 ^ (F.layout.max_paw - 25)
  pub good : (b : ℕ) → b < blocks F → Good F m (entry_at F m root b)
