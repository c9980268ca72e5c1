-- Every finished call ends in the same number of free pages: the touched blocks are in the same forms, and the others as they were.
use mathlib.Core.Path.{◌≡◌, sym, ap, ◌∙◌, subst}
use mathlib.Core.Bool.{◌&&◌}
use mathlib.Core.List.{List}
use Prim.Native.Nat.{ℕ, ◌+◌, ◌-◌, ◌≤◌, ◌<◌}
use native.Mathlib.Omega.{arith}
use lib.Dec.{eqb, leb, ltb}
use lib.ListN.{length, get_or}
use borrow.Author.Tests.{eqb-true, eq-eqb, ltb-true, lt-ltb, leb-true, le-leb}
use Rattle.model.specs.Entry.{Entry}
use Rattle.model.specs.Frame.{blocks}
use Rattle.model.specs.Walk.{entry_at}
use Rattle.model.specs.Sound.{link_of}
use Rattle.model.specs.Forms.{Form, forms, want_flat, want_pieces, want_table}
use Rattle.model.specs.Demands.{IsForm, free_count, whole}
use Rattle.laws.proofs.Choices.{and_both, and_false, and_true, split}
use Rattle.laws.proofs.Sums.{length_measure}
use Rattle.laws.proofs.Times.{times}
use Rattle.theory.proofs.Used.{links}
use Rattle.theory.proofs.Walks.{same_measure}
use Rattle.theory.proofs.Free.{sound_free}
use Rattle.theory.proofs.Accepts.{Accept}
use Rattle.theory.proofs.WholeCall.{EditCall, Rel, accept_kept, first_in, forms_kept, root_in, roots_in, whole_form, whole_step}

module _ (E : EditCall) (m : List ℕ) (k : Accept E.F E.slots E.q m) (m' : List ℕ) (t : Rel E m k m') where
  open E use {F, lawful, slots, q, low}

  abbrev R : ℕ
  R = root_in E

  abbrev k' : Accept F slots q m'
  k' = accept_kept E m k m' t

  form_links : (f : Form) (e e' : Entry) → IsForm f e → IsForm f e' → length (link_of e) ≡ length (link_of e')
  unfolding link_of
  form_links (want_flat p) e e' h h' = ap (λ (x : Entry). length (link_of x)) (h ∙ sym h')
  form_links (want_pieces i) e e' h h' = ap (λ (x : Entry). length (link_of x)) (h ∙ sym h')
  form_links want_table e e' h h' = ap (λ (x : Entry). length (link_of x)) h.1 ∙ sym (ap (λ (x : Entry). length (link_of x)) h'.1)

  fs_same : forms F m' q R ≡ forms F m q R
  fs_same = forms_kept E m k m' t

  entry_links : (r b : ℕ) → 0 < times r (roots_in E) → b < blocks F
      → length (link_of (entry_at F (whole F slots q m') r b)) ≡ length (link_of (entry_at F (whole F slots q m) r b))
  entry_links r b l u =
      let len : length (forms F m' q R) ≡ length (forms F m q R) = ap (λ (x : List Form). length x) fs_same in
      split (eqb r R && (leb (first_in E) b && ltb b ((first_in E) + length (forms F m q R))))
      (λ z.
      let x = and_true (eqb r R) (leb (first_in E) b && ltb b ((first_in E) + length (forms F m q R))) z in
      let y = and_true (leb (first_in E) b) (ltb b ((first_in E) + length (forms F m q R))) x.1 in
      let lo : (first_in E) ≤ b = leb-true (first_in E) b y.0 in
      let hi : b < (first_in E) + length (forms F m q R) = ltb-true b ((first_in E) + length (forms F m q R)) y.1 in
      subst (λ (a : ℕ). length (link_of (entry_at F (whole F slots q m') a b)) ≡ length (link_of (entry_at F (whole F slots q m) a b))) (sym (eqb-true r R x.0))
      (form_links (get_or (forms F m q R) (b - (first_in E)) want_table) (entry_at F (whole F slots q m') R b) (entry_at F (whole F slots q m) R b)
      (subst (λ (fs : List Form). IsForm (get_or fs (b - (first_in E)) want_table) (entry_at F (whole F slots q m') R b)) fs_same (whole_form E m' k' b (lo, omega arith)))
      (whole_form E m k b (lo, hi))))
      (λ z.
      let ne : (r ≡ R) × ((first_in E) ≤ b) × (b < (first_in E) + length (forms F m q R)) → ⊥
      = λ y. and_false (eqb r R) (leb (first_in E) b && ltb b ((first_in E) + length (forms F m q R))) z (eq-eqb r R y.0) (and_both (le-leb (first_in E) b y.1) (lt-ltb b ((first_in E) + length (forms F m q R)) y.2)) in
      ap (λ (e : Entry). length (link_of e))
      ((whole_step E m' k').entries r b l u (λ y. ne (y.0, y.1, omega (arith, y.2, len)))
      ∙ t.entries r b l u ne
      ∙ sym ((whole_step E m k).entries r b l u ne)))

  links_kept : length (links F (whole F slots q m') (roots_in E)) ≡ length (links F (whole F slots q m) (roots_in E))
  links_kept = same_measure F (roots_in E) (λ l. length l) length_measure (whole F slots q m) (whole F slots q m') entry_links

  pub free_of_lem : free_count F slots (whole F slots q m') ≡ free_count F slots (whole F slots q m)
  unfolding free_count
  free_of_lem =
      omega (
        arith,
        links_kept,
        sound_free F (roots_in E) (whole F slots q m') (whole_step E m' k').sound,
        sound_free F (roots_in E) (whole F slots q m) (whole_step E m k).sound,
      )
