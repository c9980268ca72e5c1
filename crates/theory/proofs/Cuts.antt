-- Calls that are cut anywhere, one after the other: what every one keeps, and that every finished one ends in the same permissions.
use mathlib.Core.Path.{◌≡◌, sym, ap, ◌∙◌, subst}
use mathlib.Core.Logic.{◌≢◌, inl, inr, ⊎_elim}
use mathlib.Core.List.{List, [], ◌∷◌}
use Prim.Native.Nat.{ℕ, ◌+◌, ◌≤◌, ◌<◌}
use native.Mathlib.Omega.{arith}
use lib.Dec.{eqb, ltb}
use lib.ListN.{length}
use borrow.Author.Tests.{eqb-true, eqb-false, ltb-true, ltb-false}
use Rattle.model.specs.Register.{ppn_of}
use Rattle.model.specs.Entry.{perm}
use Rattle.model.specs.Frame.{page_of, space}
use Rattle.model.specs.Walk.{walk}
use Rattle.model.specs.Forms.{Form, forms}
use Rattle.model.specs.Stores.{new_pages}
use Rattle.model.specs.Demands.{BeforeOrAfter, SamePermissions, calls, stopped, whole}
use Rattle.laws.proofs.Choices.{split}
use Rattle.laws.proofs.Times.{times}
use Rattle.theory.proofs.Used.{links}
use Rattle.theory.proofs.Walks.{outside_space}
use Rattle.theory.proofs.Plans.{plan_of, step_refl, step_trans}
use Rattle.theory.proofs.OneCall.{past}
use Rattle.theory.proofs.Domains.{domain_root, same_read}
use Rattle.theory.proofs.Accepts.{Accept}
use Rattle.theory.proofs.WholeCall.{EditCall, Rel, accept_kept, after_kept, call_of, cut, first_in, forms_kept, root_in, roots_in, sound_of, whole_others, whole_reads}

module _ (E : EditCall) (m : List ℕ) (k : Accept E.F E.slots E.q m) where
  open E use {F, lawful, slots, q, low}

  abbrev R : ℕ
  R = root_in E

  -- a later call's steps, in the terms of the first
  recast : (m' m'' : List ℕ) (t : Rel E m k m') → Rel E m' (accept_kept E m k m' t) m'' → Rel E m k m''
  recast m' m'' t u =
      let fs_same : forms F m' q R ≡ forms F m q R = forms_kept E m k m' t in
      let hi_same : (first_in E) + length (forms F m' q R) ≡ (first_in E) + length (forms F m q R) = ap (λ (l : List Form). (first_in E) + length l) fs_same in
      step_trans (plan_of (call_of E m k)) (first_in E) (past (call_of E m k)) m m' m'' t
      (record {
        sound = u.sound;
        reads = λ r n l h. ⊎_elim inl (λ e. inr (e.0, e.1 ∙ ap perm (after_kept E m k m' t n h))) (u.reads r n l h);
        entries = λ r b l h ne. u.entries r b l h (λ z. ne (z.0, z.1, omega (arith, z.2, hi_same)));
        weight =
            subst (λ (fs : List Form). new_pages F m'' R (first_in E) fs + length (links F m'' (roots_in E)) ≤ new_pages F m' R (first_in E) fs + length (links F m' (roots_in E))) fs_same u.weight;
        low = u.low;
      })

  pub calls_kept : (ks : List ℕ) (m' : List ℕ) → Rel E m k m' → Rel E m k (calls F slots q ks m')
  unfolding calls
  calls_kept [] m' t = t
  calls_kept (j ∷ ks) m' t = calls_kept ks (stopped F slots q j m') (recast m' (stopped F slots q j m') t (cut E m' (accept_kept E m k m' t) j))

  abbrev pub unstarted : Rel E m k m
  unstarted = step_refl (plan_of (call_of E m k)) (first_in E) (past (call_of E m k)) m (sound_of E m k)

  -- every address of every domain reads as before or as after
  module _ (m' : List ℕ) (t : Rel E m k m') where
    abbrev k' : Accept F slots q m'
    k' = accept_kept E m k m' t

    pub steady_of : BeforeOrAfter F slots m (whole F slots q m) m'
    steady_of r h address =
        let n : ℕ = page_of address in
        let p : ℕ = ppn_of F.layout r in
        split (ltb n (space F))
        (λ z.
        let u : n < space F = ltb-true n (space F) z in
        ⊎_elim
        (λ e. inl (same_read F slots m' m r address e))
        (λ e. inr (same_read F slots m' (whole F slots q m) r address
        (e.1 ∙ sym (whole_reads E m k n u) ∙ ap (λ (x : ℕ). walk F (whole F slots q m) x n) (sym e.0))))
        (t.reads p n (domain_root F slots r h) u))
        (λ z.
        let u : space F ≤ n = ltb-false n (space F) z in
        inl (same_read F slots m' m r address (outside_space F m' p n u ∙ sym (outside_space F m p n u))))

    -- a call that makes all its stores ends in the same permissions
    whole_same : (p n : ℕ) → 0 < times p (roots_in E) → n < space F → walk F (whole F slots q m') p n ≡ walk F (whole F slots q m) p n
    whole_same p n l u =
        split (eqb p R)
        (λ z. let same : p ≡ R = eqb-true p R z in
        subst (λ (x : ℕ). walk F (whole F slots q m') x n ≡ walk F (whole F slots q m) x n) (sym same)
        (whole_reads E m' k' n u ∙ ap perm (after_kept E m k m' t n u) ∙ sym (whole_reads E m k n u)))
        (λ z. let ne : p ≢ R = eqb-false p R z in
        whole_others E m' k' p n l u ne ∙ ⊎_elim (λ e. e) (λ e. absurd (ne e.0)) (t.reads p n l u) ∙ sym (whole_others E m k p n l u ne))

    pub same_of : SamePermissions F slots (whole F slots q m') (whole F slots q m)
    same_of r h address =
        let n : ℕ = page_of address in
        let p : ℕ = ppn_of F.layout r in
        split (ltb n (space F))
        (λ z. same_read F slots (whole F slots q m') (whole F slots q m) r address (whole_same p n (domain_root F slots r h) (ltb-true n (space F) z)))
        (λ z. let u : space F ≤ n = ltb-false n (space F) z in
        same_read F slots (whole F slots q m') (whole F slots q m) r address (outside_space F (whole F slots q m') p n u ∙ sym (outside_space F (whole F slots q m) p n u)))
