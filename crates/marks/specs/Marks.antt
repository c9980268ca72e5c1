-- Marks as bits of words, the lowest first.
use Rattle.std.specs.Prelude.{◌≡◌, Bool, true, false, List, ℕ, ◌-◌, ◌/◌, ◌%◌, ◌≤◌, ◌<◌, ◌^◌, Option, eqb, get_or, set, replicate, if◌then◌else◌, Some, None}
use Rattle.model.specs.Numbers.{digit}

abbrev pub Marks : Type 0
Marks = List ℕ

-- marks in a word, and words: 256 marks, as many as there can be lent pages
abbrev pub WORD-MARKS : ℕ
WORD-MARKS = 64

abbrev pub WORDS : ℕ
WORDS = 4

abbrev pub MARKS : ℕ
MARKS = 256

-- mark i stands: its bit is 1
unfoldable pub mark_at : Marks → ℕ → Bool
mark_at marks i = eqb (digit 2 (get_or marks (i / WORD-MARKS) 0) (i % WORD-MARKS)) 1

-- mark i taken away, if it stands
unfoldable pub unmark : Marks → ℕ → Marks
unmark marks i = if mark_at marks i then set marks (i / WORD-MARKS) (get_or marks (i / WORD-MARKS) 0 - 2 ^ (i % WORD-MARKS)) else marks

-- none of them, and all of them
abbrev pub no_marks : Marks
no_marks = replicate WORDS 0

abbrev pub all_marks : Marks
all_marks = replicate WORDS (2 ^ WORD-MARKS - 1)

-- r is the lowest set bit of a word
pub record LowestBit (word r : ℕ) : Type 0 where
  pub within : r < WORD-MARKS
  pub is_set : digit 2 word r ≡ 1
  pub below : (k : ℕ) → k < r → digit 2 word k ≡ 0

-- r is the lowest mark that stands; MARKS if none does
pub record Lowest (marks : Marks) (r : ℕ) : Type 0 where
  pub within : r ≤ MARKS
  pub is_marked : r < MARKS → mark_at marks r ≡ true
  pub below : (k : ℕ) → k < r → mark_at marks k ≡ false

-- r is the lowest mark that stands, if one does
abbrev pub LowestMark : Marks → Option ℕ → Type 0
LowestMark marks (Some r) = (r < MARKS) × Lowest marks r
LowestMark marks None = Lowest marks MARKS
