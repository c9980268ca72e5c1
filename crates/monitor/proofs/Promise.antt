-- Code and demand together. Call `monitor::edit` any number of times with the same request and any limits, and let a watchdog reset the
-- board after any store of any of these calls. Wherever the last of them ended, the memory reads, at every address of every domain, as before
-- the first call or as after the whole edit, and if the edit was refused no byte has changed (`recovers`). If a first call was accepted, the
-- next one is too, and what it answers and leaves is told (`promise`).
--
-- The calls are a list of cuts: a call that returns leaves what its limit lets it store, and one that is reset what it had stored. So
-- `demand3` speaks of them, and the contract's equation says what the answer is.
use Rattle.std.specs.Prelude.{Result, if◌then◌else◌, Ok, Err}
use mathlib.Core.Path.{◌≡◌, refl, sym, ap, ap₂, ◌∙◌, subst}
use mathlib.Core.Logic.{inl, inr}
use mathlib.Core.Bool.{Bool, true, false, false≢true}
use mathlib.Core.List.{List, [], ◌∷◌, ◌++◌}
use Prim.Native.Nat.{ℕ, ◌<◌, ◌≤◌}
use native.Mathlib.Omega.{arith}
use borrow.Author.Tests.{eqb-true, eqb-false, leb-true}
use Rattle.laws.proofs.Choices.{split}
use lib.Dec.{eqb, leb}
use lib.ListN.{get_or, length, take, length-take}
use lib.Seq.{take_all}
use Rattle.model.specs.Frame as Frames
use Rattle.model.specs.Forms.{Request}
use Rattle.model.specs.Stores.{Store, apply}
use Rattle.model.specs.Calls as model
use Rattle.model.specs.Calls.{edit_refusal, edit_slot, edit_with, made, refuse, store_list}
use Rattle.model.specs.Demands.{Accepted, BeforeOrAfter, Done, SamePermissions, Steady, Typed, calls, free_count, stopped, whole}
use Rattle.theory.proofs.Along.{apply_length}
use Rattle.theory.proofs.Demands.{demand2, demand3, edit_stopped, one_more, most_stores}
use Rattle.types.specs.declared.Frame.{Frame}
use Rattle.types.specs.declared.Permission.{Permission}
use Rattle.types.specs.declared.Permission.TheVariants.{None, Rx, Rw, Rwx}
use Rattle.types.specs.Views.{permission_number, reply_of}
use Rattle.slots.specs.declared.Outcome.{Outcome}
use Rattle.types.specs.declared.Reply.{Reply}
use Rattle.types.specs.declared.Reply.TheVariants.{Opened, Closed, Edited}
use Rattle.types.specs.declared.Refusal.{Refusal}
use Rattle.monitor.specs.Promise.{Reaches, Call, CrashConsistent, Ending, Kept, Recovers, interrupted, request, reset, returned}
use Rattle.table.specs.Board.{ENTRY-VALUES, frame_of, frame_over}
use Rattle.range.proofs.Lawful.{board_lawful}

-- the parts of an answer
abbrev is_edited : model.Reply → Bool
is_edited (model.refused_with n) = false
is_edited model.opened = false
is_edited model.closed = false
is_edited (model.edited count all) = true

abbrev count_in : model.Reply → ℕ
count_in (model.refused_with n) = 0
count_in model.opened = 0
count_in model.closed = 0
count_in (model.edited count all) = count

abbrev all_in : model.Reply → Bool
all_in (model.refused_with n) = false
all_in model.opened = false
all_in model.closed = false
all_in (model.edited count all) = all

permission_small : (p : Permission) → permission_number p < 4
permission_small None = omega arith
permission_small Rx = omega arith
permission_small Rw = omega arith
permission_small Rwx = omega arith

-- an answer that the model calls edited is Edited
is_edited_lem : (r : Result Reply Refusal) (count : ℕ) (all : Bool) → reply_of r ≡ model.edited count all → r ≡ Ok (Edited count all)
is_edited_lem (Err why) count all h = absurd (false≢true (ap is_edited h))
is_edited_lem (Ok Opened) count all h = absurd (false≢true (ap is_edited h))
is_edited_lem (Ok Closed) count all h = absurd (false≢true (ap is_edited h))
is_edited_lem (Ok (Edited n b)) count all h = ap₂ (λ (k : ℕ) (x : Bool). Ok (Edited k x)) (ap count_in h) (ap all_in h)

module _ (f : Frame) (slots : List ℕ) (slot start size : ℕ) (permission : Permission) (m : List ℕ) (words : (i : ℕ) → get_or m i 0 < ENTRY-VALUES) where
  abbrev F : Frames.Frame
  F = frame_of f m

  abbrev q : Request
  q = request f slots slot start size permission

  typed : Typed F q m
  typed = record { words = words; permission = permission_small permission }

  stopped_length : (k : ℕ) (n : List ℕ) → length (stopped F slots q k n) ≡ length n
  unfolding stopped
  stopped_length k n = apply_length _ n

  calls_length : (ks : List ℕ) (n : List ℕ) → length (calls F slots q ks n) ≡ length n
  unfolding calls
  calls_length [] n = refl
  calls_length (k ∷ ks) n = calls_length ks (stopped F slots q k n) ∙ stopped_length k n

  same_frame : (n : List ℕ) → length n ≡ length m → frame_of f n ≡ F
  same_frame n h = ap (frame_over f) h

  -- an accepted call that returns was stopped at its limit, or had no more to store
  call_stops : (limit : ℕ) (n : List ℕ) (r : Outcome) (n' : List ℕ) → length n ≡ length m → Accepted F slots q n → Call f slots slot start size permission limit n r n'
      → n' ≡ stopped F slots q limit n
  call_stops limit n r n' h a c =
      ap (λ (o : model.Outcome). o.memory) c
      ∙ ap (λ (G : Frames.Frame). (edit_slot G n slots q limit).memory) (same_frame n h)
      ∙ (edit_stopped F board_lawful slots q n limit a).0

  replies : (limit : ℕ) (n : List ℕ) → Accepted F slots q n
      → (edit_slot F n slots q limit).reply ≡ model.edited (length (take limit (store_list F n slots q))) (leb (length (store_list F n slots q)) limit)
  unfolding edit_slot edit_with made edit_refusal store_list
  replies limit n a = rw a

  stopped_whole : (limit : ℕ) (n : List ℕ) → length (store_list F n slots q) ≤ limit → stopped F slots q limit n ≡ whole F slots q n
  unfolding stopped whole
  stopped_whole limit n h = ap (λ (l : List Store). apply l n) (take_all limit (store_list F n slots q) h)

  -- a call that is reset was stopped where the reset came
  reset_stops : (k : ℕ) (n : List ℕ) → length n ≡ length m → Accepted F slots q n → interrupted f slots slot start size permission k n ≡ stopped F slots q k n
  unfolding interrupted
  reset_stops k n h a =
      ap (λ (G : Frames.Frame). if eqb (edit_refusal G n slots q) 0 then stopped G slots q k n else n) (same_frame n h) ∙ rw a

  -- ---- a refused edit

  refused_answer : (limit : ℕ) → eqb (edit_refusal F m slots q) 0 ≡ false → is_edited (edit_slot F m slots q limit).reply ≡ false
  unfolding edit_slot edit_with edit_refusal refuse
  refused_answer limit n = rw n

  refused_memory : (limit : ℕ) → eqb (edit_refusal F m slots q) 0 ≡ false → (edit_slot F m slots q limit).memory ≡ m
  unfolding edit_slot edit_with edit_refusal refuse
  refused_memory limit n = rw n

  unchanged : eqb (edit_refusal F m slots q) 0 ≡ false → (es : List Ending) (n : List ℕ) → Reaches f slots slot start size permission es m n → n ≡ m
  unfolding Reaches interrupted
  unchanged z [] n h = sym h
  unchanged z (returned limit r m₁ ∷ es) n h =
      unchanged z es n (subst (λ (x : List ℕ). Reaches f slots slot start size permission es x n)
      (ap (λ (o : model.Outcome). o.memory) h.0 ∙ refused_memory limit z) h.1)
  unchanged z (reset k ∷ es) n h = unchanged z es n (rw z at h)

  -- ---- an accepted one

  accepted_by : (limit : ℕ) (r : Outcome) (m' : List ℕ) (count : ℕ) (all : Bool) → Call f slots slot start size permission limit m r m' → r.reply ≡ Ok (Edited count all)
      → Accepted F slots q m
  accepted_by limit r m' count all c e =
      split (eqb (edit_refusal F m slots q) 0) (λ y. eqb-true _ _ y)
      (λ n. absurd (false≢true (sym (refused_answer limit n) ∙ sym (ap (λ (o : model.Outcome). is_edited o.reply) c) ∙ ap (λ (x : Result Reply Refusal). is_edited (reply_of x)) e)))

  module _ (accepted : Accepted F slots q m) where
    -- the calls are a list of cuts
    cuts : (es : List Ending) (ks n : List ℕ) → Reaches f slots slot start size permission es (calls F slots q ks m) n → (js : List ℕ) × (n ≡ calls F slots q js m)
    unfolding Reaches
    cuts [] ks n h = (ks, sym h)
    cuts (returned limit r m₁ ∷ es) ks n h =
        cuts es (ks ++ (limit ∷ [])) n
        (subst (λ (x : List ℕ). Reaches f slots slot start size permission es x n)
        (call_stops limit (calls F slots q ks m) r m₁ (calls_length ks m) (demand3 F board_lawful slots q m typed accepted ks).accepted h.0
        ∙ sym (one_more F board_lawful slots q ks limit m))
        h.1)
    cuts (reset k ∷ es) ks n h =
        let at : List ℕ = calls F slots q ks m in
        cuts es (ks ++ (k ∷ [])) n
        (subst (λ (x : List ℕ). Reaches f slots slot start size permission es x n)
        (reset_stops k at (calls_length ks m) (demand3 F board_lawful slots q m typed accepted ks).accepted ∙ sym (one_more F board_lawful slots q ks k m)) h)

    asks : Done F slots q m (whole F slots q m)
    asks =
        let n : ℕ = length (store_list F m slots q) in
        subst (Done F slots q m) ((edit_stopped F board_lawful slots q m n accepted).0 ∙ stopped_whole n m (omega arith))
        (demand2 F board_lawful slots q m n typed accepted (omega arith))

    -- wherever the last of the calls ended
    consistent : (es : List Ending) (n : List ℕ) → Reaches f slots slot start size permission es m n → CrashConsistent f slots slot start size permission m n
    unfolding calls
    consistent es n h =
        let cut : (js : List ℕ) × (n ≡ calls F slots q js m) = cuts es [] n h in
        record { steady = subst (Steady F slots q m) (sym cut.1) (demand3 F board_lawful slots q m typed accepted cut.0); asks = asks }

    -- what one more call after a list of cuts answers and leaves
    next : (ks : List ℕ) (limit : ℕ) (r : Outcome) (n : List ℕ) → Call f slots slot start size permission limit (calls F slots q ks m) r n
        → Kept f slots slot start size permission m r n
    next ks limit r n c =
        let at : List ℕ = calls F slots q ks m in
        let ok : Accepted F slots q at = (demand3 F board_lawful slots q m typed accepted ks).accepted in
        let list : List Store = store_list F at slots q in
        let stops : n ≡ stopped F slots q limit at = call_stops limit at r n (calls_length ks m) ok c in
        let here : edit_slot (frame_of f at) at slots q limit ≡ edit_slot F at slots q limit = ap (λ (G : Frames.Frame). edit_slot G at slots q limit) (same_frame at (calls_length ks m)) in
        record {
          count = length (take limit list);
          all = leb (length list) limit;
          accepted = is_edited_lem r.reply _ _ (ap (λ (o : model.Outcome). o.reply) (c ∙ here) ∙ replies limit at ok);
          slots_kept = ap (λ (o : model.Outcome). o.slots) (c ∙ here) ∙ (edit_stopped F board_lawful slots q at limit ok).1;
          few = omega (arith, length-take limit list, most_stores F board_lawful slots q m typed accepted ks);
          asks = asks;
          steady = subst (BeforeOrAfter F slots m (whole F slots q m)) (one_more F board_lawful slots q ks limit m ∙ sym stops)
              (demand3 F board_lawful slots q m typed accepted (ks ++ (limit ∷ []))).steady;
          same_permissions = λ t. subst (λ (x : List ℕ). SamePermissions F slots x (whole F slots q m)) (sym (stops ∙ stopped_whole limit at (leb-true _ _ t)))
              (demand3 F board_lawful slots q m typed accepted ks).same_permissions;
          same_free = λ t. ap (free_count F slots) (stops ∙ stopped_whole limit at (leb-true _ _ t)) ∙ (demand3 F board_lawful slots q m typed accepted ks).same_free;
        }

  -- whatever is asked, and however each of the calls ended: nothing is asked of the next one, which may never be made
  pub recovers : (es : List Ending) (n : List ℕ) → Reaches f slots slot start size permission es m n → Recovers f slots slot start size permission m n
  recovers es n h =
      split (eqb (edit_refusal F m slots q) 0)
      (λ y. let a : Accepted F slots q m = eqb-true _ _ y in inl (a, consistent a es n h))
      (λ z. inr (eqb-false _ _ z, unchanged z es n h))

  -- a first call was accepted, with whatever limit; calls were made and cut, as many as may be; then the next one
  pub promise : (limit : ℕ) (r : Outcome) (m' : List ℕ) (count : ℕ) (all : Bool) → Call f slots slot start size permission limit m r m' → r.reply ≡ Ok (Edited count all)
      → (es : List Ending) (n : List ℕ) → Reaches f slots slot start size permission es m n
      → (more : ℕ) (answer : Outcome) (n' : List ℕ) → Call f slots slot start size permission more n answer n'
      → Kept f slots slot start size permission m answer n'
  unfolding calls
  promise limit r m' count all c e es n h more answer n' d =
      let a : Accepted F slots q m = accepted_by limit r m' count all c e in
      let cut : (js : List ℕ) × (n ≡ calls F slots q js m) = cuts a es [] n h in
      next a cut.0 more answer n' (subst (λ (x : List ℕ). Call f slots slot start size permission more x answer n') cut.1 d)
