-- Are the domains kept apart? The premises of document 02's item 13 about a table, and the call that tests them.
use Rattle.std.specs.Prelude.{Bool, false, not, ◌&&◌, ◌||◌, ℕ, eqb, ltb, if◌then◌else◌}
use mathlib.Core.List.{List, [], ◌∷◌, ◌++◌, head_d}
use Rattle.model.specs.Numbers.{joined, member}
use Rattle.model.specs.Layout.{slot_count}
use Rattle.model.specs.Register.{ppn_of}
use Rattle.model.specs.Entry.{Found, perm, faults}
use Rattle.model.specs.Frame.{Frame, space, frame_ok}
use Rattle.model.specs.Walk.{walk}
use Rattle.model.specs.Access.{Need, read, write, execute, may}
use Rattle.model.specs.Sound.{Slot, register, is_open, roots, used, sound}
use Rattle.model.specs.Calls.{first_met, slot_at}

-- what the walk finds serves a need; serves any
unfoldable pub grants : Found → Need → Bool
grants (perm p) need = may p need
grants faults need = false

unfoldable pub grants_any : Found → Bool
grants_any f = grants f read || grants f write || grants f execute

-- How much is asked. strict is item 13's own: "no page open to two domains, no table page open to any". sharing is ours and asks less, for
-- benches whose domains share program code: of two domains to which a page is open neither may write it, and no domain may write a table page
pub data Strength : Type 0 where
  strict sharing : Strength

-- What the call answers: refused with a number; apart; or of the lowest page at fault its number, the lowest slot that reaches a table page, or the
-- lowest two that share a page, and whether a slot that is told may write it
pub data Separation : Type 0 where
  refused_apart : ℕ → Separation
  apart : Separation
  table_open : (page slot : ℕ) → Bool → Separation
  page_shared : (page slot other : ℕ) → Bool → Separation

module _ (F : Frame) (m : List ℕ) where
  -- a page is open to the domain of a register; the domain may write it
  unfoldable pub opens : ℕ → ℕ → Bool
  opens r page = grants_any (walk F m (ppn_of F.layout r) page)

  unfoldable pub writes : ℕ → ℕ → Bool
  writes r page = grants (walk F m (ppn_of F.layout r) page) write

  -- what a domain may not have of a table page, nor of a page that is open to another
  unfoldable pub reaches : Strength → ℕ → ℕ → Bool
  reaches strict r page = opens r page
  reaches sharing r page = writes r page

  module _ (slots : List Slot) where
    -- a table page: an open slot's root, or a page that an entry of one names
    unfoldable pub table_page : ℕ → Bool
    table_page page = member page (used F m (roots F slots))

    -- slot i is open, and its domain has the page so
    unfoldable pub by_slot : (ℕ → ℕ → Bool) → ℕ → ℕ → Bool
    by_slot has i page = is_open (slot_at slots i) && has (register (slot_at slots i)) page

    -- 1 and 3, as for open
    unfoldable pub apart_refusal : ℕ
    apart_refusal = first_met ((1, not (frame_ok F m)) ∷ (3, not (sound F m slots)) ∷ [])

    module _ (s : Strength) where
      -- "no table page open to any"
      unfoldable pub table_fault : ℕ → ℕ → List Separation
      table_fault page i = if table_page page && by_slot (reaches s) i page then table_open page i (by_slot writes i page) ∷ [] else []

      -- "no page open to two domains"
      unfoldable pub pair_fault : ℕ → ℕ → ℕ → List Separation
      pair_fault page i j =
          if ltb i j && (by_slot opens i page && by_slot (reaches s) j page || by_slot (reaches s) i page && by_slot opens j page)
          then page_shared page i j (by_slot writes i page || by_slot writes j page) ∷ [] else []

      -- all that is at fault with a page: as a table's first, and the lowest slots first
      unfoldable pub faults_at : ℕ → List Separation
      faults_at page = joined (table_fault page) slot_count 0 ++ joined (λ i. joined (pair_fault page i) slot_count 0) slot_count 0

      -- the first fault, from the lowest page up
      unfoldable pub separation : Separation
      separation = head_d (joined faults_at (space F) 0) apart

      unfoldable pub apart_answer : Separation
      apart_answer = if eqb apart_refusal 0 then separation else refused_apart apart_refusal
