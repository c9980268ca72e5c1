-- One accepted call: cut anywhere it keeps the step, and what the step keeps; made whole, every touched block is in its form and reads
-- as the edit says.
use mathlib.Core.Path.{◌≡◌, sym, ap, ◌∙◌, subst}
use mathlib.Core.Bool.{true, ◌&&◌}
use mathlib.Core.Logic.{◌≢◌, ⊎_elim}
use mathlib.Core.List.{List}
use Prim.Native.Nat.{ℕ, ◌+◌, ◌*◌, ◌-◌, ◌≤◌, ◌<◌}
use native.Mathlib.Omega.{arith}
use lib.Dec.{eqb}
use lib.ListN.{length, get_or}
use Rattle.model.specs.Layout.{gib_blocks}
use Rattle.model.specs.Entry.{perm}
use Rattle.model.specs.Frame.{Frame, blocks, bounds_ok, frame_ok, space}
use Rattle.model.specs.Walk.{entry_at, pn2, walk}
use Rattle.model.specs.Sound.{Slot, free_pages, roots, used}
use Rattle.model.specs.Forms.{Form, Request, after, first_gib, forms, in_range, want_table}
use Rattle.model.specs.Stores.{apply, new_pages}
use Rattle.model.specs.Calls.{finished, root_of, store_list, store_list_with}
use Rattle.model.specs.Demands.{IsForm, stopped, whole}
use Rattle.laws.proofs.Choices.{split}
use Rattle.laws.proofs.Sums.{times_measure}
use Rattle.laws.proofs.Times.{times}
use Rattle.theory.proofs.Used.{used_measure}
use Rattle.theory.proofs.Entries.{Lawful}
use Rattle.theory.proofs.Frames.{Ok, blocks_pos, frame_ok_lem}
use Rattle.theory.proofs.Roots.{root_once}
use Rattle.theory.proofs.Tables.{Sound, from_sound, to_sound}
use Rattle.theory.proofs.Finds.{after_inside, after_outside}
use Rattle.theory.proofs.Along.{Along, along_end, along_take}
use Rattle.theory.proofs.Plans.{PlannedCall}
use Rattle.theory.proofs.OneCall.{Behind, So, one_call, past}
use Rattle.theory.proofs.Forms.{forms_fit, forms_length, forms_same}
use Rattle.theory.proofs.Free.{free_in, free_once, sound_free}
use Rattle.theory.proofs.Ranges.{range_touched, touched_inside}
use Rattle.theory.proofs.Accepts.{Accept, range_of, root_in_lem}

-- An edit that is asked, on a lawful layout: what all its calls share
pub record EditCall : Type 0 where
  pub F : Frame
  pub lawful : Lawful F.layout
  pub slots : List Slot
  pub q : Request
  pub low : q.permission < 4

-- its root, the roots of all domains, and the first touched block
abbrev pub root_in : EditCall → ℕ
root_in E = root_of E.F E.slots E.q

abbrev pub roots_in : EditCall → List ℕ
roots_in E = roots E.F E.slots

abbrev pub first_in : EditCall → ℕ
first_in E = first_gib E.q * gib_blocks

module _ (E : EditCall) (m : List ℕ) (k : Accept E.F E.slots E.q m) where
  open E use {F, lawful, slots, q, low}

  abbrev R : ℕ
  R = root_in E

  abbrev RS : List ℕ
  RS = roots_in E

  abbrev B : ℕ
  B = first_in E

  pub ok_of : Ok F
  ok_of = (frame_ok_lem F m lawful k.frame).0

  pub sound_of : Sound F RS m
  sound_of = to_sound F RS m (frame_ok_lem F m lawful k.frame).1 k.good_table

  pub here_of : times R RS ≡ 1
  here_of = root_once F ok_of RS (λ x. omega (arith, sound_of.once x)) R (blocks_pos F ok_of) (root_in_lem F slots q m k)

  pub inside_of : B + length (forms F m q R) ≤ blocks F
  inside_of = omega (arith, forms_length F ok_of q low R m, touched_inside F q (range_of F slots q m k) ok_of)

  -- the call that finds m
  abbrev pub call_of : PlannedCall
  call_of = record { F = F; ok = ok_of; rs = RS; ro = R; here = here_of; q = q; low = low; m0 = m; b0 = B; fs = forms F m q R; inside = inside_of }

  -- what holds from m to a memory that calls leave which were cut
  abbrev pub Rel : List ℕ → Type 0
  Rel = So call_of

  pub single : Along Rel (store_list F m slots q) m × Behind call_of (apply (store_list F m slots q) m) (past call_of)
  unfolding store_list store_list_with finished free_pages
  single =
      one_call call_of sound_of (forms_fit F ok_of q low R m) (free_pages F m RS)
      (λ x l. let f = free_in F (used F m RS) x l in (f.0, sym (used_measure F (times x) (times_measure x) m RS) ∙ f.1))
      (free_once F (used F m RS))
      k.room

  -- cut anywhere
  pub cut : (j : ℕ) → Rel (stopped F slots q j m)
  unfolding stopped
  cut j = along_take Rel (store_list F m slots q) m single.0 j

  -- ---- what a step keeps

  module _ (m' : List ℕ) (t : Rel m') where
    perm_inj : (x y : ℕ) → perm x ≡ perm y → x ≡ y
    perm_inj x y e = cc

    pub after_kept : (n : ℕ) → n < space F → after F m' q R n ≡ after F m q R n
    after_kept n u =
        split (in_range q n)
        (λ z. after_inside F ok_of m' q R n z ∙ sym (after_inside F ok_of m q R n z))
        (λ z.
        let a : walk F m' R n ≡ perm (after F m' q R n) = after_outside F ok_of RS m' t.sound q R n (root_in_lem F slots q m k) u z in
        let b : walk F m R n ≡ perm (after F m q R n) = after_outside F ok_of RS m sound_of q R n (root_in_lem F slots q m k) u z in
        perm_inj _ _ (sym a ∙ ⊎_elim (λ e. e ∙ b) (λ e. e.1) (t.reads R n (root_in_lem F slots q m k) u)))

    pub forms_kept : forms F m' q R ≡ forms F m q R
    forms_kept = forms_same F ok_of q low R m m' after_kept (touched_inside F q (range_of F slots q m k) ok_of)

    frame_kept : frame_ok F m' ≡ true
    unfolding frame_ok
    frame_kept = ap (λ (n : ℕ). bounds_ok F && eqb n (F.pages * F.layout.words)) (t.sound.size ∙ sym sound_of.size) ∙ k.frame

    pub accept_kept : Accept F slots q m'
    accept_kept =
        record {
          frame = frame_kept;
          good_slots = k.good_slots;
          good_table = from_sound F RS m' t.sound;
          slot = k.slot;
          range = k.range;
          no_write_execute = k.no_write_execute;
          apart = k.apart;
          room =
              omega (
                arith,
                ap (λ (fs : List Form). new_pages F m' R B fs) forms_kept,
                t.weight,
                k.room,
                sound_free F RS m sound_of,
                sound_free F RS m' t.sound,
              );
        }

  -- ---- the whole edit

  pub whole_step : Rel (whole F slots q m)
  unfolding whole
  whole_step = along_end Rel (store_list F m slots q) m single.0

  abbrev Touched : ℕ → Type 0
  Touched b = (B ≤ b) × (b < B + length (forms F m q R))

  pub whole_form : (b : ℕ) → Touched b → IsForm (get_or (forms F m q R) (b - B) want_table) (entry_at F (whole F slots q m) R b)
  unfolding whole
  whole_form b h =
      let z : B + (b - B) ≡ b = omega (arith, h.0) in
      subst (λ (c : ℕ). IsForm (get_or (forms F m q R) (b - B) want_table) (entry_at F (apply (store_list F m slots q) m) R c)) z
      (single.1 (b - B) (omega (arith, h.1)) (omega (arith, h.1))).0

  whole_touched : (n : ℕ) → n < space F → Touched (pn2 n) → walk F (whole F slots q m) R n ≡ perm (after F m q R n)
  unfolding whole
  whole_touched n u h = (single.1 (pn2 n - B) (omega (arith, h.1, h.0)) (omega (arith, h.1, h.0))).1 n u (omega (arith, h.0))

  pub whole_reads : (n : ℕ) → n < space F → walk F (whole F slots q m) R n ≡ perm (after F m q R n)
  whole_reads n u =
      split (in_range q n)
      (λ z. let h = range_touched F q n z in whole_touched n u (h.0, omega (arith, h.1, forms_length F ok_of q low R m)))
      (λ z.
      let b : walk F m R n ≡ perm (after F m q R n) = after_outside F ok_of RS m sound_of q R n (root_in_lem F slots q m k) u z in
      ⊎_elim (λ e. e ∙ b) (λ e. e.1) (whole_step.reads R n (root_in_lem F slots q m k) u))

  pub whole_others : (r n : ℕ) → 0 < times r RS → n < space F → r ≢ R → walk F (whole F slots q m) r n ≡ walk F m r n
  whole_others r n l u ne = ⊎_elim (λ e. e) (λ e. absurd (ne e.0)) (whole_step.reads r n l u)
