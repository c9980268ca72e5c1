-- What is at fault with a table page: the first slot that reaches it.
use Rattle.std.specs.Prelude.{Option, Some, None}
use Rattle.std.specs.Option.{is_some}
use mathlib.Core.Path.{◌≡◌, refl, sym, ap, ◌∙◌}
use mathlib.Core.Bool.{Bool, true, false, ◌&&◌, false≢true}
use mathlib.Core.List.{List, [], head_d}
use Prim.Native.Nat.{ℕ, ◌+◌, ◌<◌}
use native.Mathlib.Nat.{zero-add}
use native.Mathlib.Omega.{arith}
use Rattle.model.specs.Layout.{slot_count}
use Rattle.model.specs.Entry.{perm}
use Rattle.model.specs.Frame.{Frame}
use Rattle.model.specs.Access.{write}
use Rattle.model.specs.Sound.{Slot}
use Rattle.model.specs.Calls.{slot_at}
use Rattle.model.specs.Apart.{Strength, apart, table_open, grants, reaches, table_page, by_slot, table_fault}
use Rattle.laws.proofs.Choices.{split}
use Rattle.laws.proofs.Lists.{joined_none}
use Rattle.sharing.specs.First.{First, FirstOf}
use Rattle.sharing.specs.Faults.{some, slot_grants, table_faults}
use Rattle.sharing.proofs.FaultLists.{some_if, joined_rest, joined_head}
use Rattle.sharing.proofs.SlotRights.{slot_writes}

module _ (F : Frame) (m : List ℕ) (slots : List Slot) (s : Strength) (page : ℕ) where
  -- what slot i has of a table page
  fault_at : table_page F m slots page ≡ true → (i : ℕ) → some (table_fault F m slots s page i) ≡ by_slot F m slots (reaches F m s) i page
  unfolding table_fault
  fault_at t i = some_if (table_page F m slots page && by_slot F m slots (reaches F m s) i page) _ ∙ rw t refl

  pub no_table_page : table_page F m slots page ≡ false → table_faults F m slots s page ≡ []
  unfolding table_fault
  no_table_page t = joined_none _ slot_count 0 (λ k lo hi. rw t refl)

  pub is_table_page : some (table_faults F m slots s page) ≡ true → table_page F m slots page ≡ true
  is_table_page h =
      split (table_page F m slots page) (λ t. t) (λ t. absurd (false≢true (sym (ap some (no_table_page t)) ∙ h)))

  module _ (t : table_page F m slots page ≡ true) where
    abbrev reached : ℕ → Bool
    reached i = by_slot F m slots (reaches F m s) i page

    table_first : (r : ℕ) → First reached 0 slot_count r → First (λ i. some (table_fault F m slots s page i)) 0 slot_count r
    table_first r first = record { within = first.within; passes = λ h. fault_at t (0 + r) ∙ first.passes h; before = λ k h. fault_at t (0 + k) ∙ first.before k h }

    pub table_none : First reached 0 slot_count slot_count → table_faults F m slots s page ≡ []
    table_none first = joined_rest (table_fault F m slots s page) slot_count slot_count (table_first slot_count first) (omega arith)

    pub table_some : (r : ℕ) → r < slot_count → First reached 0 slot_count r
        → (some (table_faults F m slots s page) ≡ true) × (head_d (table_faults F m slots s page) apart ≡ table_open page r (grants (perm (slot_grants F m (slot_at slots r) page)) write))
    unfolding table_fault head_d
    table_some r l first =
        let head = joined_head (table_fault F m slots s page) slot_count r (table_first r first) l apart in
        let reach : by_slot F m slots (reaches F m s) r page ≡ true = ap (λ (k : ℕ). by_slot F m slots (reaches F m s) k page) (sym (zero-add r)) ∙ first.passes l in
        (head.0, head.1 ∙ rw (t, reach) (ap (table_open page r) (slot_writes F m slots r page)))

    -- there is a fault exactly where a slot reaches it
    pub table_asked : (r : Option ℕ) → FirstOf reached 0 slot_count r → is_some r ≡ some (table_faults F m slots s page)
    table_asked (Some r) first = sym (table_some r first.0 first.1).0
    table_asked None first = sym (ap some (table_none first))

-- the lowest page at fault as a table page is one
pub lowest_table : (F : Frame) (m : List ℕ) (slots : List Slot) (s : Strength) (n t : ℕ) → FirstOf (λ page. some (table_faults F m slots s page)) 0 n (Some t) → table_page F m slots t ≡ true
lowest_table F m slots s n t by = is_table_page F m slots s t (ap (λ (page : ℕ). some (table_faults F m slots s page)) (sym (zero-add t)) ∙ by.1.passes by.0)
