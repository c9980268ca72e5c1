-- The lowest page at fault, as a table page or as one that two slots share, is what is answered.
use Rattle.std.specs.Prelude.{Option, Some, None}
use mathlib.Core.Path.{◌≡◌, sym, ap, ap₂, ◌∙◌}
use mathlib.Core.Bool.{true}
use mathlib.Core.List.{List, [], ◌++◌, head_d}
use Prim.Native.Nat.{ℕ, ◌≤◌, ◌<◌}
use native.Mathlib.Nat.{zero-add}
use native.Mathlib.Omega.{arith}
use Rattle.model.specs.Frame.{Frame, space}
use Rattle.model.specs.Sound.{Slot}
use Rattle.model.specs.Apart.{Strength, Separation, apart, table_page, faults_at, separation}
use Rattle.laws.proofs.Lists.{joined_none}
use Rattle.sharing.specs.First.{First, FirstOf}
use Rattle.sharing.specs.Crowds.{crowded}
use Rattle.sharing.specs.Faults.{some, table_faults, pair_faults}
use Rattle.sharing.proofs.FaultLists.{none_some, head_of, joined_head}
use Rattle.sharing.proofs.TableFaults.{lowest_table}
use Rattle.sharing.proofs.PairFaults.{pairs_crowd}

module _ (F : Frame) (m : List ℕ) (slots : List Slot) (s : Strength) (table shared : ℕ)
    (byTable : First (λ page. some (table_faults F m slots s page)) 0 (space F) table) (byPair : First (crowded F m slots s) 0 (space F) shared) where
  no_table_lem : (page : ℕ) → page < table → table_faults F m slots s page ≡ []
  no_table_lem page u = ap (table_faults F m slots s) (sym (zero-add page)) ∙ none_some _ (byTable.before page u)

  no_pair : (page : ℕ) → page < shared → pair_faults F m slots s page ≡ []
  no_pair page u = none_some _ (pairs_crowd F m slots s page ∙ ap (crowded F m slots s) (sym (zero-add page)) ∙ byPair.before page u)

  no_fault : (page : ℕ) → page < table → page < shared → faults_at F m slots s page ≡ []
  unfolding faults_at
  no_fault page u v = ap₂ ◌++◌ (no_table_lem page u) (no_pair page v)

  -- the first fault, where the pages below have none
  from_page : (page : ℕ) → page < space F → ((k : ℕ) → k < page → faults_at F m slots s k ≡ []) → some (faults_at F m slots s page) ≡ true
      → separation F m slots s ≡ head_d (faults_at F m slots s page) apart
  unfolding separation
  from_page page u none h =
      (joined_head (faults_at F m slots s) (space F) page
      (record {
        within = omega arith;
        passes = λ l. ap (λ (k : ℕ). some (faults_at F m slots s k)) (zero-add page) ∙ h;
        before = λ k l. ap some (ap (faults_at F m slots s) (zero-add k) ∙ none k l);
      }) u apart).1

  pub answer_shared : shared < table → separation F m slots s ≡ head_d (pair_faults F m slots s shared) apart
  unfolding faults_at
  answer_shared l =
      let low : shared < space F = omega (arith, byTable.within) in
      let here : faults_at F m slots s shared ≡ pair_faults F m slots s shared = ap (λ (x : List Separation). x ++ pair_faults F m slots s shared) (no_table_lem shared l) in
      from_page shared low (λ k u. no_fault k (omega arith) u)
      (ap some here ∙ pairs_crowd F m slots s shared ∙ ap (crowded F m slots s) (sym (zero-add shared)) ∙ byPair.passes low)
      ∙ ap (λ (x : List Separation). head_d x apart) here

  pub answer_table : table ≤ shared → table < space F → separation F m slots s ≡ head_d (table_faults F m slots s table) apart
  unfolding faults_at head_d
  answer_table l u =
      let there : some (table_faults F m slots s table) ≡ true = ap (λ (k : ℕ). some (table_faults F m slots s k)) (sym (zero-add table)) ∙ byTable.passes u in
      let found = head_of apart (table_faults F m slots s table) there (pair_faults F m slots s table) in
      from_page table u (λ k v. no_fault k v (omega arith)) found.0 ∙ found.1

  pub answer_apart : table ≤ shared → space F ≤ table → separation F m slots s ≡ apart
  unfolding separation head_d
  answer_apart l u = ap (λ (x : List Separation). head_d x apart) (joined_none (faults_at F m slots s) (space F) 0 (λ k lo hi. no_fault k (omega arith) (omega arith)))

-- the two lowest pages, each if there is one
module _ (F : Frame) (m : List ℕ) (slots : List Slot) (s : Strength) where
  abbrev pub Told : Option ℕ → Option ℕ → Type 0
  Told None None = separation F m slots s ≡ apart
  Told None (Some p) = separation F m slots s ≡ head_d (pair_faults F m slots s p) apart
  Told (Some t) None = (table_page F m slots t ≡ true) × (separation F m slots s ≡ head_d (table_faults F m slots s t) apart)
  Told (Some t) (Some p) =
      (table_page F m slots t ≡ true)
      × (p < t → separation F m slots s ≡ head_d (pair_faults F m slots s p) apart)
      × (t ≤ p → separation F m slots s ≡ head_d (table_faults F m slots s t) apart)

  pub told : (table shared : Option ℕ) → FirstOf (λ page. some (table_faults F m slots s page)) 0 (space F) table → FirstOf (crowded F m slots s) 0 (space F) shared → Told table shared
  told None None byTable byPair = answer_apart F m slots s (space F) (space F) byTable byPair (omega arith) (omega arith)
  told None (Some p) byTable byPair = answer_shared F m slots s (space F) p byTable byPair.1 byPair.0
  told (Some t) None byTable byPair = (lowest_table F m slots s (space F) t byTable, answer_table F m slots s t (space F) byTable.1 byPair byTable.1.within byTable.0)
  told (Some t) (Some p) byTable byPair = (
    lowest_table F m slots s (space F) t byTable,
    answer_shared F m slots s t p byTable.1 byPair.1,
    λ l. answer_table F m slots s t p byTable.1 byPair.1 l byTable.0,
  )
