-- A page zeroed word by word: the laws of `shapes` at this board.
use mathlib.Core.Path.{◌≡◌}
use mathlib.Core.List.{List}
use Prim.Native.Nat.{ℕ, ◌+◌, ◌≤◌, ◌<◌}
use lib.ListN.{set}
use Rattle.shapes.proofs.SlotLaws as laws
use Rattle.slots.specs.ZeroPage.{zeroed}
use Rattle.table.specs.Board.{PAGE-WORDS}

-- the words from word i of the page on
abbrev pub left : List ℕ → ℕ → ℕ → List ℕ
left = laws.zero_rest PAGE-WORDS

pub left_all : (m : List ℕ) (at : ℕ) → zeroed m at ≡ left m at 0
unfolding zeroed
left_all = laws.rest_all PAGE-WORDS

pub left_next : (m : List ℕ) (at i : ℕ) → i < PAGE-WORDS → left m at i ≡ left (set m (at + i) 0) at (i + 1)
left_next = laws.rest_next PAGE-WORDS

pub left_none : (m : List ℕ) (at i : ℕ) → PAGE-WORDS ≤ i → left m at i ≡ m
left_none = laws.rest_none PAGE-WORDS
