-- The two passes, over the registers and over the tables, find what the definition of a sound table says.
use Rattle.std.specs.Prelude.{if◌then◌else◌}
use mathlib.Core.Path.{◌≡◌, refl, sym, ap, ap₂, ◌∙◌}
use mathlib.Core.Bool.{Bool, true, false, ◌&&◌, false≢true}
use mathlib.Core.List.{List, [], ◌∷◌, ◌++◌, map, map-append}
use Prim.Native.Nat.{ℕ, zero, suc, ◌≤◌}
use native.Mathlib.Nat.{mod-lt, lt_of_lt_of_le}
use native.Mathlib.Omega.{arith}
use lib.Dec.{eqb, ltb, lit<, lit≤}
use borrow.Author.Tests.{lt-ltb}
use Rattle.model.specs.Numbers.{every, joined, each, distinct}
use Rattle.model.specs.Register.{ppn_of, wpri_of, sdid_of, mode_of}
use Rattle.model.specs.Entry.{Entry, flat, pieces, table, invalid}
use Rattle.model.specs.Layout.{Layout}
use Rattle.model.specs.Frame.{Frame, bounds_ok, blocks, lent}
use Rattle.model.specs.Walk.{root_pages, entry_at}
use Rattle.model.specs.Sound.{Slot, register, is_open, open_registers, link_of, roots, sdids, links_in, used, clean_page, sound_entry, sound_register, sound_root, sound_slots, sound_table}
use Rattle.laws.proofs.Lists.{each_step}
use Rattle.laws.proofs.FrameNumbers.{bounds}
use Rattle.marks.specs.Marks.{Marks, all_marks}
use Rattle.scan.specs.Scan.{Scan, unsound, marked, scanned, then_scan, scan_all, take_mark, register_step, claim_of, link_step, entry_step, block_step, root_step, slot_step}
use Rattle.scan.proofs.Loops.{then_marked}
use Rattle.scan.proofs.Claims.{claim_all, then_unsound, then_same, spread, all_claims, run_claims, unmark_all, claims}
use Rattle.scan.proofs.UsedPages.{place, used_lent, place_distinct, places_low}

-- a pass over all slots is one over the registers of the open ones
pass_opened : (step inner : Marks → ℕ → Scan) → ((k : Marks) (s : Slot) → step k s ≡ (if is_open s then inner k (register s) else marked k))
    → (slots : List Slot) (k : Marks) → scan_all step k slots ≡ scan_all inner k (open_registers slots)
unfolding scan_all open_registers
pass_opened step inner law [] k = refl
pass_opened step inner law (s ∷ ss) k =
    then_same (step k s) _ _ (λ o. pass_opened step inner law ss o)
    ∙ ap (λ (x : Scan). then_scan x (λ o. scan_all inner o (open_registers ss))) (law k s)
    ∙ go (is_open s)
  where
    go : (t : Bool) → then_scan (if t then inner k (register s) else marked k) (λ o. scan_all inner o (open_registers ss))
        ≡ scan_all inner k (if t then register s ∷ open_registers ss else open_registers ss)
    go true = refl
    go false = refl

pass_mapped : (step : Marks → ℕ → Scan) (f : ℕ → ℕ) (xs : List ℕ) (k : Marks) → scan_all (λ j x. step j (f x)) k xs ≡ scan_all step k (map f xs)
unfolding scan_all
pass_mapped step f [] k = refl
pass_mapped step f (x ∷ xs) k = then_same (step k (f x)) _ _ (λ o. pass_mapped step f xs o)

-- a test within a test
if_and : (a b : Bool) (s : Scan) → (if a then (if b then s else unsound) else unsound) ≡ (if a && b then s else unsound)
if_and true b s = refl
if_and false b s = refl

-- what a function's answer says of a test
answered : (r b : Bool) (j k : Marks) → scanned r j ≡ (if b then marked k else unsound) → (r ≡ b) × (r ≡ true → j ≡ k)
answered true true j k e = (refl, λ t. cc)
answered true false j k e = let bad : ◌≡◌ {A = ℕ} 0 1 = cc in absurd (omega arith)
answered false true j k e = let bad : ◌≡◌ {A = ℕ} 0 1 = cc in absurd (omega arith)
answered false false j k e = (refl, λ t. absurd (false≢true t))

module _ (F : Frame) (m : List ℕ) where
  abbrev L : Layout
  L = F.layout

  -- ---- the registers

  register_inner : Marks → ℕ → Scan
  register_inner k r = if eqb (mode_of L r) 1 then (if eqb (wpri_of L r) 0 then take_mark k (sdid_of L r) else unsound) else unsound

  register_law : (k : Marks) (r : ℕ) → register_inner k r ≡ (if sound_register F r then claim_all k (sdid_of L r ∷ []) else unsound)
  unfolding register_inner sound_register claim_all
  register_law k r =
      if_and (eqb (mode_of L r) 1) (eqb (wpri_of L r) 0) (take_mark k (sdid_of L r))
      ∙ ap (λ (s : Scan). if eqb (mode_of L r) 1 && eqb (wpri_of L r) 0 then s else unsound) (sym (then_marked (take_mark k (sdid_of L r))))

  spread_sdids : (rs : List ℕ) → spread (λ r. sdid_of L r ∷ []) rs ≡ map (sdid_of L) rs
  unfolding spread
  spread_sdids [] = refl
  spread_sdids (r ∷ rs) = ap (λ (l : List ℕ). sdid_of L r ∷ l) (spread_sdids rs)

  sdids_low : (rs : List ℕ) → each (λ i. ltb i 256) (map (sdid_of L) rs) ≡ true
  unfolding each sdid_of
  sdids_low [] = refl
  sdids_low (r ∷ rs) =
      each_step (λ i. ltb i 256) (sdid_of L r) (map (sdid_of L) rs) ∙ ap₂ ◌&&◌ (lt-ltb (sdid_of L r) 256 (lt_of_lt_of_le (mod-lt _ (lit< tt)) (lit≤ tt))) (sdids_low rs)

  registers_pass : (slots : List Slot)
      → scan_all (register_step L) all_marks slots ≡ (if sound_slots F slots then marked (unmark_all all_marks (sdids F slots)) else unsound)
  unfolding register_step register_inner sound_slots sdids
  registers_pass slots =
      let rs = open_registers slots in
      pass_opened (register_step L) register_inner (λ k s. refl) slots all_marks
      ∙ all_claims register_inner (sound_register F) (λ r. sdid_of L r ∷ []) register_law rs all_marks
      ∙ ap (λ (is : List ℕ). if each (sound_register F) rs then claim_all all_marks is else unsound) (spread_sdids rs)
      ∙ ap (λ (s : Scan). if each (sound_register F) rs then s else unsound) (claims (map (sdid_of L) rs) (sdids_low rs))
      ∙ if_and (each (sound_register F) rs) (distinct (map (sdid_of L) rs)) _

  -- ---- the tables

  link_places : Entry → List ℕ
  link_places e = map (place F) (link_of e)

  entry_law : (k : Marks) (e : Entry) → entry_step F m k e ≡ (if sound_entry F m e then claim_all k (link_places e) else unsound)
  unfolding claim_all link_step claim_of sound_entry link_places link_of
  entry_law k (flat p) = refl
  entry_law k (pieces info) = refl
  entry_law k invalid = refl
  entry_law k (table page) = go (lent F page) (clean_page F m page) (take_mark k (place F page))
    where
      go : (a b : Bool) (s : Scan) → then_scan (if a then s else unsound) (scanned b) ≡ (if a && b then then_scan s marked else unsound)
      go true true s = refl
      go true false s = then_unsound s
      go false b s = refl

  joined_places : (g : ℕ → List ℕ) (n s : ℕ) → joined (λ b. map (place F) (g b)) n s ≡ map (place F) (joined g n s)
  unfolding joined
  joined_places g zero s = refl
  joined_places g (suc n) s =
      ap (λ (l : List ℕ). map (place F) (g s) ++ l) (joined_places g n (suc s)) ∙ sym (map-append (place F) (g s) (joined g n (suc s)))

  root_places : ℕ → List ℕ
  root_places root = place F root ∷ map (place F) (links_in F m root)

  root_law : (k : Marks) (root : ℕ) → root_step F m k root ≡ (if sound_root F m root then claim_all k (root_places root) else unsound)
  unfolding root_step sound_root root_places root_pages claim_all claim_of links_in each link_places
  root_law k root =
      then_same (claim_of F k root) _ _ (λ o.
      run_claims (block_step F m root) guard (λ b. link_places (entry_at F m root b)) (λ j b. entry_law j (entry_at F m root b)) (blocks F) 0 o
      ∙ ap (λ (is : List ℕ). if every guard (blocks F) 0 then claim_all o is else unsound) (joined_places (λ b. link_of (entry_at F m root b)) (blocks F) 0))
      ∙ go (lent F root) (every guard (blocks F) 0)
    where
      guard : ℕ → Bool
      guard b = sound_entry F m (entry_at F m root b)

      links : List ℕ
      links = map (place F) (joined (λ b. link_of (entry_at F m root b)) (blocks F) 0)

      go : (a b : Bool) → then_scan (if a then take_mark k (place F root) else unsound) (λ o. if b then claim_all o links else unsound)
          ≡ (if (elim a as (λ x. Bool) [ true ↦ true | false ↦ false ]) && b then then_scan (take_mark k (place F root)) (λ o. claim_all o links) else unsound)
      go true true = refl
      go true false = then_unsound (take_mark k (place F root))
      go false b = refl

  spread_used : (rs : List ℕ) → spread root_places rs ≡ map (place F) (used F m rs)
  unfolding spread used root_places root_pages
  spread_used [] = refl
  spread_used (root ∷ rs) =
      ap (λ (l : List ℕ). place F root ∷ map (place F) (links_in F m root) ++ l) (spread_used rs)
      ∙ ap (λ (l : List ℕ). place F root ∷ l) (sym (map-append (place F) (links_in F m root) (used F m rs)))

  module _ (ok : bounds_ok F ≡ true) (most : F.layout.max_pages ≤ 256) where
    few : F.pages ≤ 256
    few = omega (arith, (bounds F ok).most, most)

    claimed : (ps : List ℕ) → each (lent F) ps ≡ true
        → claim_all all_marks (map (place F) ps) ≡ (if distinct ps then marked (unmark_all all_marks (map (place F) ps)) else unsound)
    claimed ps h =
        claims (map (place F) ps) (places_low F few ps h)
        ∙ ap (λ (b : Bool). if b then marked (unmark_all all_marks (map (place F) ps)) else unsound) (place_distinct F ps h)

    roots_pass : (rs : List ℕ) → scan_all (root_step F m) all_marks rs ≡ (if sound_table F m rs then marked (unmark_all all_marks (map (place F) (used F m rs))) else unsound)
    unfolding sound_table
    roots_pass rs =
        all_claims (root_step F m) (sound_root F m) root_places root_law rs all_marks
        ∙ ap (λ (is : List ℕ). if each (sound_root F m) rs then claim_all all_marks is else unsound) (spread_used rs)
        ∙ go (each (sound_root F m) rs) refl
      where
        go : (t : Bool) → each (sound_root F m) rs ≡ t
            → (if t then claim_all all_marks (map (place F) (used F m rs)) else unsound)
            ≡ (if t && distinct (used F m rs) then marked (unmark_all all_marks (map (place F) (used F m rs))) else unsound)
        go true e = claimed (used F m rs) (used_lent F m rs e)
        go false e = refl

    tables_pass : (slots : List Slot)
        → scan_all (slot_step F m) all_marks slots ≡ (if sound_table F m (roots F slots) then marked (unmark_all all_marks (map (place F) (used F m (roots F slots)))) else unsound)
    unfolding slot_step roots
    tables_pass slots =
        pass_opened (slot_step F m) (λ k r. root_step F m k (ppn_of L r)) (λ k s. refl) slots all_marks
        ∙ pass_mapped (root_step F m) (ppn_of L) (open_registers slots) all_marks
        ∙ roots_pass (map (ppn_of L) (open_registers slots))

    -- ---- what the functions' answers say

    pub tables_said : (slots : List Slot) {k : Marks} (r : Bool) (j : Marks) → k ≡ all_marks → scanned r j ≡ scan_all (slot_step F m) k slots
        → (r ≡ sound_table F m (roots F slots)) × (r ≡ true → j ≡ unmark_all all_marks (map (place F) (used F m (roots F slots))))
    tables_said slots r j e said = answered r _ j _ (said ∙ ap (λ (k : Marks). scan_all (slot_step F m) k slots) e ∙ tables_pass slots)

  pub registers_said : (slots : List Slot) {k : Marks} (r : Bool) (j : Marks) → k ≡ all_marks → scanned r j ≡ scan_all (register_step L) k slots
      → r ≡ sound_slots F slots
  registers_said slots r j e said = (answered r _ j _ (said ∙ ap (λ (k : Marks). scan_all (register_step L) k slots) e ∙ registers_pass slots)).0
