-- One block that is to have a permission, or one for each piece: its stores are its L2 entry, if it changes.
use mathlib.Core.Path.{◌≡◌, refl, sym, ap, ◌∙◌, subst}
use mathlib.Core.Bool.{true}
use mathlib.Core.Logic.{◌≢◌}
use mathlib.Core.List.{List, []}
use Prim.Native.Nat.{ℕ, suc, ◌+◌, ◌<◌}
use native.Mathlib.Omega.{arith}
use lib.Dec.{eqb}
use lib.ListN.{length}
use borrow.Author.Tests.{eqb-true}
use Rattle.model.specs.Entry.{Entry, clean, decode, perm, table}
use Rattle.model.specs.Frame.{blocks, lent, space, word_at}
use Rattle.model.specs.Walk.{entry_at, found, l2_word, pn2, walk}
use Rattle.model.specs.Sound.{link_of}
use Rattle.model.specs.Stores.{apply, if_changed_l2}
use Rattle.model.specs.Demands.{IsForm}
use Rattle.laws.proofs.Choices.{split}
use Rattle.laws.proofs.Times.{times, times_none}
use Rattle.theory.proofs.Used.{links, pages_of, passes}
use Rattle.theory.proofs.Tables.{Sound, link_in, link_not_root, table_once}
use Rattle.theory.proofs.Walks.{change_times, entry_lent, found_same, walk_in}
use Rattle.theory.proofs.Along.{Along, along_l2, along_none, apply_l2, apply_none}
use Rattle.theory.proofs.Plans.{Plan, Spot, Step, need, spot_inside, step_refl}
use Rattle.theory.proofs.OneStore.{l2_entry, l2_other, l2_others, l2_page, put_l2, root_lent, step_l2}

module _ (P : Plan) (B : Spot P) where
  open P use {F, ok, rs, ro, here, A, small}
  open B use {b, f, pre, post, parts, at}

  -- what the stores of this block keep
  abbrev pub T : List ℕ → List ℕ → Type 0
  T = Step P b (suc b)

  lr : 0 < times ro rs
  lr = omega (arith, here)

  ub : b < blocks F
  ub = spot_inside P B

  -- After the block's stores: the block is in its form and reads as A says; the entries and L1 pages of the other blocks are as they were;
  -- a page that was free, other than p, is free
  pub record End (p : ℕ) (m m' : List ℕ) : Type 0 where
    pub step : T m m'
    pub form : IsForm f (entry_at F m' ro b)
    pub reads : (n : ℕ) → n < space F → pn2 n ≡ b → walk F m' ro n ≡ perm (A n)
    pub other_entries : (c : ℕ) → c ≢ b → c < blocks F → l2_word F m' ro c ≡ l2_word F m ro c
    pub other_pages : (c t i : ℕ) → c ≢ b → c < blocks F → entry_at F m ro c ≡ table t → i < F.layout.words → word_at F m' t i ≡ word_at F m t i
    pub still_free : (x : ℕ) → x ≢ p → times x (pages_of F rs) + times x (links F m rs) ≡ 0 → times x (pages_of F rs) + times x (links F m' rs) ≡ 0

  -- ---- an entry that is to hold permissions

  module _ (p w : ℕ) (e' : Entry) (m : List ℕ) (s : Sound F rs m) (dec : decode F.layout w ≡ e') (passed : passes e' ≡ true) (plain : link_of e' ≡ [])
      (fits : (n : ℕ) → n < space F → pn2 n ≡ b → found F m e' n ≡ perm (A n)) (form : IsForm f e') (noNeed : need f e' ≡ 0) where
    no_table : (t : ℕ) → e' ≡ table t → ⊥
    no_table t z =
        omega (arith, sym (table_once F t) ∙ ap (λ (e : Entry). times t (link_of e)) (sym z) ∙ ap (times t) plain, times_none t)

    abbrev fresh : (t : ℕ) → e' ≡ table t → (lent F t ≡ true) × (times t (pages_of F rs) + times t (links F m rs) ≡ 0) × ((i : ℕ) → i < F.layout.words → clean F.layout (word_at F m t i) ≡ true)
    fresh t z = absurd (no_table t z)

    kept : l2_word F m ro b ≡ w → End p m m
    kept same =
        let e : entry_at F m ro b ≡ e' = entry_lent F m ro b (root_lent F ok rs m s ro b lr ub) ∙ ap (decode F.layout) same ∙ dec in
        record {
          step = step_refl P b (suc b) m s;
          form = subst (IsForm f) (sym e) form;
          reads = λ n u bb. walk_in F m ro n u ∙ ap (λ (c : ℕ). found F m (entry_at F m ro c) n) bb ∙ ap (λ (x : Entry). found F m x n) e ∙ fits n u bb;
          other_entries = λ c ne u. refl;
          other_pages = λ c t i ne u z h. refl;
          still_free = λ x ne z. z;
        }

    stored : End p m (put_l2 F m ro b w)
    stored =
        let m' : List ℕ = put_l2 F m ro b w in
        let e : entry_at F m' ro b ≡ e' = l2_entry P b (suc b) m b w e' s ub dec passed fresh fits in
        let others = l2_others P b (suc b) m b w e' s ub dec passed fresh fits in
        record {
          step = step_l2 P b (suc b) m b w e' s ub dec passed fresh fits pre f post parts at (omega arith) (omega arith)
              (omega (arith, noNeed, ap (λ (l : List ℕ). length l) plain));
          form = subst (IsForm f) (sym e) form;
          reads = λ n u bb.
              walk_in F m' ro n u ∙ ap (λ (c : ℕ). found F m' (entry_at F m' ro c) n) bb ∙ ap (λ (x : Entry). found F m' x n) e
              ∙ found_same F m m' e' n (λ t z. absurd (no_table t z)) ∙ fits n u bb;
          other_entries = λ c ne u. l2_other F ok rs m s ro b w ro c lr ub lr u (λ z. ne z.1);
          other_pages = λ c t i ne u z h.
              l2_page F ok rs m s ro b w t i lr ub (s.links_lent t (link_in F rs m ro c t lr u z)) (link_not_root F rs m s ro c t lr u z) h;
          still_free = λ x ne z.
              omega (
                arith,
                change_times F rs m m' ro b here ub others x,
                ap (λ (k : Entry). times x (link_of k)) e,
                ap (times x) plain,
                times_none x,
              );
        }

    -- the stores of such a block, computed from a memory m0 whose entry is the same
    pub entry_block : (m0 : List ℕ) → l2_word F m ro b ≡ l2_word F m0 ro b → Along (T m) (if_changed_l2 F m0 ro b w) m × End p m (apply (if_changed_l2 F m0 ro b w) m)
    unfolding if_changed_l2
    entry_block m0 same =
        split (eqb (l2_word F m0 ro b) w)
        (λ q. rw q (
          along_none (T m) m (step_refl P b (suc b) m s),
          subst (End p m) (sym (apply_none m)) (kept (same ∙ eqb-true (l2_word F m0 ro b) w q)),
        ))
        (λ q. rw q (
          along_l2 (T m) F ro b w m (step_refl P b (suc b) m s) stored.step,
          subst (End p m) (sym (apply_l2 F ro b w m)) stored,
        ))
