-- One block that is to have an L1 page: the entries of the page in order, and then, where the page is new, the L2 entry.
use mathlib.Core.Path.{◌≡◌, refl, sym, ap, ap₂, ◌∙◌, subst, subst₂}
use mathlib.Core.Bool.{true}
use mathlib.Core.Logic.{◌≢◌, ◌⊎◌, inl, inr}
use mathlib.Core.List.{List, [], ◌∷◌, ◌++◌}
use Prim.Native.Nat.{ℕ, zero, suc, ◌+◌, ◌*◌, ◌≤◌, ◌<◌}
use native.Mathlib.Nat.{add-zero, zero-add}
use native.Mathlib.Omega.{arith}
use lib.Dec.{eqb}
use lib.ListN.{length}
use borrow.Author.Tests.{eqb-true, eqb-false}
use Rattle.model.specs.Numbers.{joined}
use Rattle.model.specs.Entry.{Entry, clean, decode, encode, field_of, perm, table}
use Rattle.model.specs.Frame.{blocks, lent, space, word_at}
use Rattle.model.specs.Walk.{entry_at, entry_page, entry_place, found, l2_word, pn0, pn1, pn2, walk}
use Rattle.model.specs.Sound.{link_of}
use Rattle.model.specs.Forms.{Form, want_table}
use Rattle.model.specs.Stores.{Store, apply, if_changed, needs_page, store_at, store_l2}
use Rattle.model.specs.Demands.{IsForm}
use Rattle.laws.proofs.Choices.{split}
use Rattle.laws.proofs.Times.{times, times_other}
use Rattle.theory.proofs.Used.{links, pages_of, passes}
use Rattle.theory.proofs.Entries.{decode_table}
use Rattle.theory.proofs.Memory.{put, put_other_entry, put_other_page, put_same}
use Rattle.theory.proofs.Frames.{lent_ppn, pn1_lt}
use Rattle.theory.proofs.Roots.{page_of_lem, place_lt}
use Rattle.theory.proofs.Tables.{Sound, link_block_once, link_in, link_not_root}
use Rattle.theory.proofs.Walks.{SameEntries, change_times, entry_word, found_table, same_times, walk_in}
use Rattle.theory.proofs.Finds.{wanted, wanted_clean, wanted_field, wanted_small}
use Rattle.theory.proofs.Along.{Along, along_append, along_l2, along_none, along_one, apply_append, apply_l2, apply_none, apply_one}
use Rattle.theory.proofs.Plans.{Plan, Spot, Step, need, spot_inside, step_refl, step_trans}
use Rattle.theory.proofs.OneStore.{l2_entry, l2_other, l2_others, l2_page, put_l2, root_lent, step_free, step_l1, step_l2}
use Rattle.theory.proofs.BlockEntry.{End}

table_passes : (t : ℕ) → passes (table t) ≡ true
unfolding passes
table_passes t = refl

table_need : (t : ℕ) → need want_table (table t) ≡ 0
unfolding need needs_page
table_need t = refl

table_length : (t : ℕ) → length (link_of (table t)) ≡ 1
unfolding link_of
table_length t = refl

table_other : (x t : ℕ) → x ≢ t → times x (link_of (table t)) ≡ 0
unfolding link_of
table_other x t ne = times_other x t ne

module _ (P : Plan) (B : Spot P) where
  open P use {F, ok, rs, ro, here, A, small}
  open B use {b, f, pre, post, parts, at}

  -- what the stores of this block keep
  abbrev T : List ℕ → List ℕ → Type 0
  T = Step P b (suc b)

  lr : 0 < times ro rs
  lr = omega (arith, here)

  ub : b < blocks F
  ub = spot_inside P B

  -- ---- a page whose entries are written in order, from memory m1 on

  abbrev W : ℕ → ℕ
  W = wanted F ok A b

  -- entries below s of page p are written, and no other page is changed
  record Mid (p : ℕ) (m1 m : List ℕ) (s : ℕ) : Type 0 where
    written : (i : ℕ) → i < s → word_at F m p i ≡ W i
    rest : (i : ℕ) → s ≤ i → i < F.layout.words → word_at F m p i ≡ word_at F m1 p i
    others : (x i : ℕ) → x ≢ p → lent F x ≡ true → i < F.layout.words → word_at F m x i ≡ word_at F m1 x i
    step : T m1 m

  module _ (p : ℕ) (lp : lent F p ≡ true) (m1 : List ℕ) (s1 : Sound F rs m1) (no_root : times p (pages_of F rs) ≡ 0) where
    mid_start : Mid p m1 m1 0
    mid_start =
        record {
          written = λ i h. absurd (omega arith);
          rest = λ i l h. refl;
          others = λ x i ne l h. refl;
          step = step_refl P b (suc b) m1 s1;
        }

    -- pages of roots are other pages, so every entry is as it was
    mid_l2 : (m : List ℕ) (s : ℕ) → Mid p m1 m s → (r c : ℕ) → 0 < times r rs → c < blocks F → l2_word F m r c ≡ l2_word F m1 r c
    unfolding l2_word
    mid_l2 m s k r c l u =
        k.others (entry_page F r c) (entry_place F c) (λ z. omega (arith, no_root, page_of_lem F ok rs r c l u, ap (λ (y : ℕ). times y (pages_of F rs)) z))
        (root_lent F ok rs m1 s1 r c l u) (place_lt F ok c u)

    mid_entries : (m : List ℕ) (s : ℕ) → Mid p m1 m s → SameEntries F rs m1 m
    mid_entries m s k r c l u =
        entry_word F m1 m r c (mid_l2 m s k r c l u)

    mid_put : (m : List ℕ) (s : ℕ) → Mid p m1 m s → s < F.layout.words → T m (put F m p s (W s)) → Mid p m1 (put F m p s (W s)) (suc s)
    mid_put m s k h t =
        let size : length m ≡ F.pages * F.layout.words = k.step.sound.size in
        record {
          written = λ i l.
              split (eqb i s)
              (λ q. let same : i ≡ s = eqb-true i s q in subst (λ (j : ℕ). word_at F (put F m p s (W s)) p j ≡ W j) (sym same) (put_same F m p s (W s) size lp h))
              (λ q. let ne : i ≢ s = eqb-false i s q in put_other_entry F m p s (W s) i ne lp h (omega arith) ∙ k.written i (omega arith));
          rest = λ i l u. put_other_entry F m p s (W s) i (λ z. omega (arith, z)) lp h u ∙ k.rest i (omega arith) u;
          others = λ x i ne lx u. put_other_page F m p s (W s) x i ne lp lx h u ∙ k.others x i ne lx u;
          step = step_trans P b (suc b) m1 m (put F m p s (W s)) k.step t;
        }

    mid_skip : (m : List ℕ) (s : ℕ) → Mid p m1 m s → s < F.layout.words → word_at F m1 p s ≡ W s → Mid p m1 m (suc s)
    mid_skip m s k h e =
        record {
          written = λ i l.
              split (eqb i s)
              (λ q. let same : i ≡ s = eqb-true i s q in
              subst (λ (j : ℕ). word_at F m p j ≡ W j) (sym same) (k.rest s (omega arith) h ∙ e))
              (λ q. let ne : i ≢ s = eqb-false i s q in k.written i (omega arith));
          rest = λ i l u. k.rest i (omega arith) u;
          others = k.others;
          step = k.step;
        }

    -- each entry is stored, or is right already
    module _ (g : ℕ → List Store)
        (stores : (i : ℕ) → i < F.layout.words → (g i ≡ store_at F p i (W i) ∷ []) ⊎ ((g i ≡ []) × (word_at F m1 p i ≡ W i)))
        (one : (m : List ℕ) (s : ℕ) → Mid p m1 m s → s < F.layout.words → T m (put F m p s (W s))) where
      run : (n s : ℕ) (m : List ℕ) → s + n ≡ F.layout.words → Mid p m1 m s
          → Along (T m1) (joined g n s) m × Mid p m1 (apply (joined g n s) m) (s + n)
      unfolding joined
      run zero s m e k = (along_none (T m1) m k.step, subst₂ (λ (x : List ℕ) (y : ℕ). Mid p m1 x y) (sym (apply_none m)) (sym (add-zero s)) k)
      run (suc n) s m e k =
          let h : s < F.layout.words = omega arith in
          let e' : suc s + n ≡ F.layout.words = omega arith in
          let z : suc s + n ≡ s + suc n = omega arith in
          step (stores s h)
          (let k' = mid_put m s k h (one m s k h) in (k'.step, run n (suc s) (put F m p s (W s)) e' k'))
          (λ skip. run n (suc s) m e' (mid_skip m s k h skip))
        where
          step : (g s ≡ store_at F p s (W s) ∷ []) ⊎ ((g s ≡ []) × (word_at F m1 p s ≡ W s))
              → (T m1 (put F m p s (W s))) × (Along (T m1) (joined g n (suc s)) (put F m p s (W s)) × Mid p m1 (apply (joined g n (suc s)) (put F m p s (W s))) (suc s + n))
              → ((word_at F m1 p s ≡ W s) → Along (T m1) (joined g n (suc s)) m × Mid p m1 (apply (joined g n (suc s)) m) (suc s + n))
              → Along (T m1) (g s ++ joined g n (suc s)) m × Mid p m1 (apply (g s ++ joined g n (suc s)) m) (s + suc n)
          step (inl q) x y =
              let rest : List Store = joined g n (suc s) in
              let one_done : apply (store_at F p s (W s) ∷ []) m ≡ put F m p s (W s) = apply_one F p s (W s) m in
              let z : suc s + n ≡ s + suc n = omega arith in
              rw q (
                along_append (T m1) (store_at F p s (W s) ∷ []) rest m
                    (along_one (T m1) F p s (W s) m k.step x.0)
                    (subst (Along (T m1) rest) (sym one_done) x.1.0),
                subst₂ (λ (c : List ℕ) (d : ℕ). Mid p m1 c d)
                    (sym (apply_append (store_at F p s (W s) ∷ []) rest m ∙ ap (apply rest) one_done)) z x.1.1,
              )
          step (inr q) x y =
              let z : suc s + n ≡ s + suc n = omega arith in
              rw q.0 (subst (λ (d : ℕ). Along (T m1) (joined g n (suc s)) m × Mid p m1 (apply (joined g n (suc s)) m) d) z (y q.1))

  -- ---- TYPE 4 wanted

  absent_need : (e : Entry) → needs_page f e ≡ true → need f e ≡ 1
  unfolding need
  absent_need e h = rw h

  module _ (isTable : f ≡ want_table) (m1 : List ℕ) (s1 : Sound F rs m1) (m0 : List ℕ) (v : ℕ → ℕ) (vw : (i : ℕ) → i < F.layout.words → v i ≡ W i) where
    -- a page that holds every entry wanted
    table_reads : (m : List ℕ) (t : ℕ) → lent F t ≡ true → entry_at F m ro b ≡ table t → ((i : ℕ) → i < F.layout.words → word_at F m t i ≡ W i)
        → (n : ℕ) → n < space F → pn2 n ≡ b → walk F m ro n ≡ perm (A n)
    table_reads m t lt e all n u bb =
        walk_in F m ro n u
        ∙ ap (λ (c : ℕ). found F m (entry_at F m ro c) n) bb
        ∙ ap (λ (x : Entry). found F m x n) e
        ∙ found_table F m t n lt
        ∙ ap (λ (w : ℕ). field_of F.layout w (pn0 F.layout n)) (all (pn1 F.layout n) (pn1_lt F ok n))
        ∙ wanted_field F ok A small b (pn1 F.layout n) n bb refl

    -- and present
    module _ (p t : ℕ) (e : entry_at F m1 ro b ≡ table t) (same : (i : ℕ) → i < F.layout.words → word_at F m1 t i ≡ word_at F m0 t i) where
      linked : 0 < times t (links F m1 rs)
      linked = link_in F rs m1 ro b t lr ub e

      lt : lent F t ≡ true
      lt = s1.links_lent t linked

      no_root : times t (pages_of F rs) ≡ 0
      no_root = omega (arith, s1.once t, linked)

      abbrev g : ℕ → List Store
      g i = if_changed F m0 t i (v i)

      stores : (i : ℕ) → i < F.layout.words → (g i ≡ store_at F t i (W i) ∷ []) ⊎ ((g i ≡ []) × (word_at F m1 t i ≡ W i))
      unfolding if_changed
      stores i h =
          split (eqb (word_at F m0 t i) (v i))
          (λ q. inr (rw q, same i h ∙ eqb-true (word_at F m0 t i) (v i) q ∙ vw i h))
          (λ q. inl (rw q (ap (λ (w : ℕ). store_at F t i w ∷ []) (vw i h))))

      one : (m : List ℕ) (s : ℕ) → Mid t m1 m s → s < F.layout.words → T m (put F m t s (W s))
      one m s k h =
          step_l1 P b (suc b) m b t s (W s) k.step.sound ub
          (mid_entries t lt m1 s1 no_root m s k ro b lr ub ∙ e) h (wanted_clean F ok A small b s) (wanted_small F ok A small b s)
          (λ n u bb ii. wanted_field F ok A small b s n bb ii)

      pub same_block : Along (T m1) (joined g F.layout.words 0) m1 × End P B p m1 (apply (joined g F.layout.words 0) m1)
      same_block =
          let r = run t lt m1 s1 no_root g stores one F.layout.words 0 m1 (zero-add _) (mid_start t lt m1 s1 no_root) in
          let m : List ℕ = apply (joined g F.layout.words 0) m1 in
          let k : Mid t m1 m F.layout.words = subst (Mid t m1 m) (zero-add F.layout.words) r.1 in
          let entries : SameEntries F rs m1 m = mid_entries t lt m1 s1 no_root m F.layout.words k in
          let e' : entry_at F m ro b ≡ table t = entries ro b lr ub ∙ e in (
            r.0,
            record {
              step = k.step;
              form = subst (λ (x : Form). IsForm x (entry_at F m ro b)) (sym isTable) (t, e');
              reads = table_reads m t lt e' (λ i h. k.written i h);
              other_entries = λ c ne u. mid_l2 t lt m1 s1 no_root m F.layout.words k ro c lr u;
              other_pages = λ c x i ne u z h.
                  k.others x i (λ y. link_block_once F rs m1 s1 ro c b t lr u ub (z ∙ ap table y) e ne) (s1.links_lent x (link_in F rs m1 ro c x lr u z)) h;
              still_free = λ x ne z. omega (arith, z, same_times F rs m1 m entries x);
            },
          )

    -- and absent: p is a free page
    module _ (p : ℕ) (lp : lent F p ≡ true) (free : times p (pages_of F rs) + times p (links F m1 rs) ≡ 0) (absent : needs_page want_table (entry_at F m1 ro b) ≡ true) where
      no_root' : times p (pages_of F rs) ≡ 0
      no_root' = omega arith

      abbrev g' : ℕ → List Store
      g' i = store_at F p i (v i) ∷ []

      stores' : (i : ℕ) → i < F.layout.words → (g' i ≡ store_at F p i (W i) ∷ []) ⊎ ((g' i ≡ []) × (word_at F m1 p i ≡ W i))
      stores' i h = inl (ap (λ (w : ℕ). store_at F p i w ∷ []) (vw i h))

      one' : (m : List ℕ) (s : ℕ) → Mid p m1 m s → s < F.layout.words → T m (put F m p s (W s))
      one' m s k h =
          step_free P b (suc b) m p s (W s) k.step.sound lp
          (omega (arith, free, same_times F rs m1 m (mid_entries p lp m1 s1 no_root' m s k) p)) h (wanted_small F ok A small b s)

      abbrev link : ℕ
      link = encode F.layout (table p)

      linked_end : (m : List ℕ) → Mid p m1 m F.layout.words → End P B p m1 (put_l2 F m ro b link)
      linked_end m k =
          let m3 : List ℕ = put_l2 F m ro b link in
          let s2 : Sound F rs m = k.step.sound in
          let entries : SameEntries F rs m1 m = mid_entries p lp m1 s1 no_root' m F.layout.words k in
          let free2 : times p (pages_of F rs) + times p (links F m rs) ≡ 0 = omega (arith, free, same_times F rs m1 m entries p) in
          let dec : decode F.layout link ≡ table p = decode_table F.layout ok.lawful p (lent_ppn F ok p lp) in
          let passed : passes (table p) ≡ true = table_passes p in
          let words : (i : ℕ) → i < F.layout.words → word_at F m p i ≡ W i = λ i h. k.written i h in
          let fresh : (t : ℕ) → table p ≡ table t → (lent F t ≡ true) × (times t (pages_of F rs) + times t (links F m rs) ≡ 0) × ((i : ℕ) → i < F.layout.words → clean F.layout (word_at F m t i) ≡ true)
          = λ t z. let q : p ≡ t = cc in
          subst (λ (t : ℕ). (lent F t ≡ true) × (times t (pages_of F rs) + times t (links F m rs) ≡ 0) × ((i : ℕ) → i < F.layout.words → clean F.layout (word_at F m t i) ≡ true)) q
          (lp, free2, λ i h. rw (words i h) (wanted_clean F ok A small b i)) in
          let fits : (n : ℕ) → n < space F → pn2 n ≡ b → found F m (table p) n ≡ perm (A n)
          = λ n u bb. found_table F m p n lp ∙ ap (λ (w : ℕ). field_of F.layout w (pn0 F.layout n)) (words (pn1 F.layout n) (pn1_lt F ok n)) ∙ wanted_field F ok A small b (pn1 F.layout n) n bb refl in
          let e : entry_at F m3 ro b ≡ table p = l2_entry P b (suc b) m b link (table p) s2 ub dec passed fresh fits in
          let others = l2_others P b (suc b) m b link (table p) s2 ub dec passed fresh fits in
          let absent2 : needs_page f (entry_at F m ro b) ≡ true
          = ap₂ (λ (x : Form) (y : Entry). needs_page x y) isTable (entries ro b lr ub) ∙ absent in
          let step2 : T m m3
          = step_l2 P b (suc b) m b link (table p) s2 ub dec passed fresh fits pre f post parts at (omega arith) (omega arith)
          (omega (arith, ap (λ (x : Form). need x (table p)) isTable, table_need p, table_length p, absent_need (entry_at F m ro b) absent2)) in
          record {
            step = step_trans P b (suc b) m1 m m3 k.step step2;
            form = subst (λ (x : Form). IsForm x (entry_at F m3 ro b)) (sym isTable) (p, e);
            reads = table_reads m3 p lp e (λ i h. l2_page F ok rs m s2 ro b link p i lr ub lp no_root' h ∙ words i h);
            other_entries = λ c ne u.
                l2_other F ok rs m s2 ro b link ro c lr ub lr u (λ z. ne z.1) ∙ mid_l2 p lp m1 s1 no_root' m F.layout.words k ro c lr u;
            other_pages = λ c t i ne u z h.
                let lk : 0 < times t (links F m1 rs) = link_in F rs m1 ro c t lr u z in
                l2_page F ok rs m s2 ro b link t i lr ub (s1.links_lent t lk) (link_not_root F rs m1 s1 ro c t lr u z) h
                ∙ k.others t i (λ y. omega (arith, free, lk, ap (λ (j : ℕ). times j (links F m1 rs)) y)) (s1.links_lent t lk) h;
            still_free = λ x ne z.
                omega (
                  arith,
                  z,
                  same_times F rs m1 m entries x,
                  change_times F rs m m3 ro b here ub others x,
                  ap (λ (y : Entry). times x (link_of y)) e,
                  table_other x p ne,
                );
          }

      pub new_block : Along (T m1) (joined g' F.layout.words 0 ++ (store_l2 F ro b link ∷ [])) m1
          × End P B p m1 (apply (joined g' F.layout.words 0 ++ (store_l2 F ro b link ∷ [])) m1)
      new_block =
          let fill : List Store = joined g' F.layout.words 0 in
          let r = run p lp m1 s1 no_root' g' stores' one' F.layout.words 0 m1 (zero-add _) (mid_start p lp m1 s1 no_root') in
          let m : List ℕ = apply fill m1 in
          let k : Mid p m1 m F.layout.words = subst (Mid p m1 m) (zero-add F.layout.words) r.1 in
          let end : End P B p m1 (put_l2 F m ro b link) = linked_end m k in (
            along_append (T m1) fill (store_l2 F ro b link ∷ []) m1 r.0 (along_l2 (T m1) F ro b link m k.step end.step),
            subst (End P B p m1) (sym (apply_append fill (store_l2 F ro b link ∷ []) m1 ∙ apply_l2 F ro b link m)) end,
          )
