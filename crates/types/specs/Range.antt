-- What the contracts ask of a range, and what they say of where pages lie.
use Rattle.std.specs.Prelude.{◌≡◌, Bool, true, false, ℕ, ◌+◌, ◌-◌, ◌%◌, ◌≤◌, ◌<◌, ◌^◌}
use Rattle.model.specs.Layout.{page_bytes}
use Rattle.model.specs.Forms as model
use Rattle.types.specs.declared.Request.{Request}
use Rattle.types.specs.declared.Place.{Place}
use Rattle.types.specs.declared.Place.TheVariants.{Inside, Outside, Across}

-- the permission is one of four; the range is of whole pages, one at the least, and ends where an address of 56 bits does or before
pub record Fair (q : Request) : Type 0 where
  pub small : q.permission < 4
  pub starts : q.start.0 % page_bytes ≡ 0
  pub whole : q.size % page_bytes ≡ 0
  pub some : 0 < q.size
  pub ends : q.start.0 + q.size ≤ 2 ^ 56

-- where the n pages from s lie, seen from the range
abbrev pub Lies : model.Request → ℕ → ℕ → Place → Type 0
Lies q s n Inside = (k : ℕ) → s ≤ k → k < s + n → model.in_range q k ≡ true
Lies q s n Outside = (k : ℕ) → s ≤ k → k < s + n → model.in_range q k ≡ false
Lies q s n Across = Unit {0}

-- if so, not all of the n pages from s lie outside the range
abbrev pub Meets : model.Request → ℕ → ℕ → Bool → Type 0
Meets q s n true = ((k : ℕ) → s ≤ k → k < s + n → model.in_range q k ≡ false) → ⊥
Meets q s n false = Unit {0}

-- r of the n numbers from s lie below end
pub record Cut (end s n r : ℕ) : Type 0 where
  pub few : r ≤ n
  pub below : r ≤ end - s
  pub past : r < n → end ≤ s + r
