-- The second and the third demand, for every lawful layout, and so for both boards. Open this file first.
-- The statements are the model's own (`Demand2`, `Demand3`), with no further hypothesis. The rooms that carry them:
-- `WholeCall` (one call), `Cuts` (calls that are cut anywhere), `CutsFree` (the free pages), `Counts` (how many stores).
use mathlib.Core.Path.{◌≡◌, refl, sym, ap, ◌∙◌, subst}
use mathlib.Core.List.{List, [], ◌∷◌, ◌++◌}
use Prim.Native.Nat.{ℕ, ◌≤◌, suc, ◌+◌, ◌-◌, ◌*◌, ◌^◌}
use native.Mathlib.Omega.{arith}
use lib.ListN.{length}
use lib.Seq.{take_all}
use Rattle.model.specs.Layout.{rv32, rv64}
use Rattle.model.specs.Frame.{Frame}
use Rattle.model.specs.Sound.{Slot, free_pages, roots}
use Rattle.model.specs.Forms.{Request}
use Rattle.model.specs.Stores.{Store, apply}
use Rattle.model.specs.Calls.{edit_refusal, edit_slot, edit_with, finished, made, root_of, store_list, store_list_with}
use Rattle.model.specs.Demands.{Accepted, Demand2, Demand3, Done, Typed, calls, stopped, whole}
use Rattle.theory.proofs.Entries.{Lawful, rv32_lawful, rv64_lawful}
use Rattle.theory.proofs.Frames.{blocks_words, blocks_few}
use Rattle.theory.proofs.Accepts.{Accept, from_accept, range_of, root_in_lem, to_accept}
use Rattle.theory.proofs.WholeCall.{EditCall, Rel, accept_kept, ok_of}
use Rattle.theory.proofs.Cuts.{calls_kept, same_of, steady_of, unstarted}
use Rattle.theory.proofs.CutsFree.{free_of_lem}
use Rattle.theory.proofs.Finished.{whole_done}
use Rattle.theory.proofs.Counts.{count}

module _ (F : Frame) (lawful : Lawful F.layout) (slots : List Slot) (q : Request) where
  -- ---- demand 3

  pub demand3 : Demand3 F slots q
  unfolding store_list store_list_with finished
  demand3 m typed accepted ks =
      let E : EditCall = record { F = F; lawful = lawful; slots = slots; q = q; low = typed.permission } in
      let k : Accept F slots q m = to_accept F slots q m accepted in
      let m' : List ℕ = calls F slots q ks m in
      let t : Rel E m k m' = calls_kept E m k ks m (unstarted E m k) in
      record {
        accepted = from_accept F slots q m' (accept_kept E m k m' t);
        steady = steady_of E m k m' t;
        same_permissions = same_of E m k m' t;
        same_free = free_of_lem E m k m' t;
        few_stores =
            count F (ok_of E m k) q typed.permission (range_of F slots q m k) m'
            (root_of F slots q) (roots F slots) t.sound (root_in_lem F slots q m k) (t.low typed.words) (free_pages F m' (roots F slots));
      }

  -- the memory after store j of one more call is among those that the claim speaks of
  pub one_more : (ks : List ℕ) (j : ℕ) (m : List ℕ) → calls F slots q (ks ++ (j ∷ [])) m ≡ stopped F slots q j (calls F slots q ks m)
  unfolding calls
  one_more [] j m = refl
  one_more (k ∷ ks) j m = one_more ks j (stopped F slots q k m)

  -- an accepted call with a limit is a call that is stopped there: the claim speaks of it, and its slots are as they were
  pub edit_stopped : (m : List ℕ) (limit : ℕ) → Accepted F slots q m
      → ((edit_slot F m slots q limit).memory ≡ stopped F slots q limit m) × ((edit_slot F m slots q limit).slots ≡ slots)
  unfolding edit_slot edit_with made stopped edit_refusal store_list
  edit_stopped m limit a = (rw a, rw a)

  -- ---- demand 2

  edit_whole : (m : List ℕ) (limit : ℕ) → Accepted F slots q m → length (store_list F m slots q) ≤ limit → (edit_slot F m slots q limit).memory ≡ whole F slots q m
  unfolding stopped whole
  edit_whole m limit a h = (edit_stopped m limit a).0 ∙ ap (λ (l : List Store). apply l m) (take_all limit (store_list F m slots q) h)

  pub demand2 : Demand2 F slots q
  demand2 m limit typed accepted all =
      let E : EditCall = record { F = F; lawful = lawful; slots = slots; q = q; low = typed.permission } in
      subst (Done F slots q m) (sym (edit_whole m limit accepted all)) (whole_done E m (to_accept F slots q m accepted))

  -- no call takes more stores than this, whatever the cuts before it
  pub most_stores : (m : List ℕ) → Typed F q m → Accepted F slots q m → (ks : List ℕ)
      → length (store_list F (calls F slots q ks m) slots q) ≤ 2 ^ (F.layout.max_paw - 25) - 2 + 2 * suc F.layout.words
  most_stores m typed accepted ks =
      let E : EditCall = record { F = F; lawful = lawful; slots = slots; q = q; low = typed.permission } in
      omega (arith, (demand3 m typed accepted ks).few_stores, blocks_few F (ok_of E m (to_accept F slots q m accepted)))

-- ---- the two boards

module _ (paw first pages : ℕ) (slots : List Slot) (q : Request) where
  abbrev board64 : Frame
  board64 = record { layout = rv64; paw = paw; first = first; pages = pages }

  abbrev board32 : Frame
  board32 = record { layout = rv32; paw = paw; first = first; pages = pages }

  pub rv64_demand2 : Demand2 board64 slots q
  rv64_demand2 = demand2 board64 rv64_lawful slots q

  pub rv64_demand3 : Demand3 board64 slots q
  rv64_demand3 = demand3 board64 rv64_lawful slots q

  pub rv32_demand2 : Demand2 board32 slots q
  rv32_demand2 = demand2 board32 rv32_lawful slots q

  pub rv32_demand3 : Demand3 board32 slots q
  rv32_demand3 = demand3 board32 rv32_lawful slots q

  -- "No call of an edit takes more than 1,536 stores." (document 00, the third demand): an accepted edit's PAW is 30 to 34, whatever the cuts
  -- before it
  pub rv64_most : (m : List ℕ) → Typed board64 q m → Accepted board64 slots q m → (ks : List ℕ) → length (store_list board64 (calls board64 slots q ks m) slots q) ≤ 1536
  rv64_most m typed accepted ks =
      let E : EditCall = record { F = board64; lawful = rv64_lawful; slots = slots; q = q; low = typed.permission } in
      omega (arith, (rv64_demand3 m typed accepted ks).few_stores, blocks_words board64 (ok_of E m (to_accept board64 slots q m accepted)))
