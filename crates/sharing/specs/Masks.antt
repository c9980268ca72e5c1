-- Permissions side by side in a number, each a page's: the lower of its two bits is at bit k. Slots are counted by three numbers, in each a bit for
-- each page, at the same place.
use Rattle.std.specs.Prelude.{◌≡◌, Bool, true, false, ◌||◌, ℕ, suc, eqb, leb}
use Rattle.model.specs.Numbers.{digit}
use Rattle.model.specs.Apart.{Strength, strict, sharing}
use Rattle.types.specs.declared.Masks.{Masks}

-- bit k of a number is set
unfoldable pub bit : ℕ → ℕ → Bool
bit x k = eqb (digit 2 x k) 1

-- of a permission at bit k: it opens its page; a slot with it reaches the page
unfoldable pub open_bit : ℕ → ℕ → Bool
open_bit x k = bit x k || bit x (suc k)

unfoldable pub reach_bit : Strength → ℕ → ℕ → Bool
reach_bit strict x k = open_bit x k
reach_bit sharing x k = bit x (suc k)

-- one, if it is so
abbrev pub one : Bool → ℕ
one true = 1
one false = 0

-- the page at bit k is open to c slots, and d reach it: as far as masks tell
pub record Counted (masks : Masks) (k c d : ℕ) : Type 0 where
  pub once : bit masks.once k ≡ leb 1 c
  pub twice : bit masks.twice k ≡ leb 2 c
  pub reached : bit masks.reached k ≡ leb 1 d
