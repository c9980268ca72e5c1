-- One call: its stores, block by block. At every store the plan's step holds, and at the end every block is done.
use Rattle.std.specs.Prelude.{if◌then◌else◌}
use mathlib.Core.Path.{◌≡◌, refl, sym, ap, ◌∙◌, subst, subst₂}
use mathlib.Core.Bool.{true, true≢false}
use mathlib.Core.Logic.{◌≢◌, ◌⊎◌, inl, inr}
use mathlib.Core.List.{List, [], ◌∷◌, ◌++◌, head_d, tail, append_assoc}
use Prim.Native.Nat.{ℕ, suc, ◌+◌, ◌-◌, ◌≤◌, ◌<◌}
use native.Mathlib.Nat.{add-zero}
use native.Mathlib.Omega.{arith}
use lib.Dec.{eqb}
use lib.ListN.{length, length-append, get_or}
use lib.Seq.{get_or-append_seam}
use borrow.Author.Tests.{eqb-true, eqb-false}
use Rattle.model.specs.Entry.{perm, table}
use Rattle.model.specs.Frame.{blocks, lent, space, word_at}
use Rattle.model.specs.Walk.{entry_at, l2_word, pn2, walk}
use Rattle.model.specs.Forms.{Form, want_table}
use Rattle.model.specs.Stores.{Store, apply, block_stores, needs_page, new_pages, stores_from}
use Rattle.model.specs.Demands.{IsForm}
use Rattle.laws.proofs.Choices.{split}
use Rattle.laws.proofs.Times.{head_times, times, times_one}
use Rattle.theory.proofs.Used.{links, pages_of}
use Rattle.theory.proofs.Tables.{Sound}
use Rattle.theory.proofs.Walks.{entry_word}
use Rattle.theory.proofs.Along.{Along, along_append, along_map, along_none, apply_append, apply_none}
use Rattle.theory.proofs.Plans.{PlannedCall, Fits, FitsAll, Spot, Step, plan_of, spot_inside, step_refl, step_trans, step_widen}
use Rattle.theory.proofs.BlockStores.{Ready, Result, block}

module _ (C : PlannedCall) where
  open C use {F, ok, rs, ro, here, q, m0, b0, fs, inside}

  abbrev A : ℕ → ℕ
  A = (plan_of C).A

  -- the first block past the plan, and what holds from m0 to a memory that the call leaves on its way
  abbrev pub past : ℕ
  past = b0 + length fs

  abbrev pub So : List ℕ → Type 0
  So = Step (plan_of C) b0 past m0

  lr : 0 < times ro rs
  lr = omega (arith, here)

  -- the blocks below b are in their form and read as A says
  abbrev pub Behind : List ℕ → ℕ → Type 0
  Behind m b =
      (i : ℕ) → b0 + i < b → b0 + i < past
      → IsForm (get_or fs i want_table) (entry_at F m ro (b0 + i)) × ((n : ℕ) → n < space F → pn2 n ≡ b0 + i → walk F m ro n ≡ perm (A n))

  -- where the stores of the blocks below b are made: the blocks from b on are as they were in m0, and free holds what is left of the
  -- free pages
  pub record At (m : List ℕ) (b : ℕ) (post : List Form) (free : List ℕ) : Type 0 where
    pub step : So m
    pub ahead : (c : ℕ) → b ≤ c → c < blocks F → l2_word F m ro c ≡ l2_word F m0 ro c
    pub ahead_l1 : (c t i : ℕ) → b ≤ c → c < blocks F → entry_at F m0 ro c ≡ table t → i < F.layout.words → word_at F m t i ≡ word_at F m0 t i
    pub is_free : (x : ℕ) → 0 < times x free → (lent F x ≡ true) × (times x (pages_of F rs) + times x (links F m rs) ≡ 0)
    pub once : (x : ℕ) → times x free ≤ 1
    pub enough : new_pages F m0 ro b post ≤ length free
    pub behind : Behind m b

  behind_keep : (m m' : List ℕ) (b : ℕ) → Step (plan_of C) b (suc b) m m' → Behind m b → Behind m' b
  behind_keep m m' b t h i l u =
      let old = h i l u in (
        subst (IsForm (get_or fs i want_table)) (sym (t.entries ro (b0 + i) lr (omega (arith, inside)) (λ z. omega (arith, z.1)))) old.0,
        λ n un bb. go n (old.1 n un bb) (t.reads ro n lr un),
      )
    where
      go : (n : ℕ) → walk F m ro n ≡ perm (A n) → (walk F m' ro n ≡ walk F m ro n) ⊎ ((ro ≡ ro) × (walk F m' ro n ≡ perm (A n))) → walk F m' ro n ≡ perm (A n)
      go n e (inl z) = z ∙ e
      go n e (inr z) = z.1

  -- ---- one more block

  module _ (B : Spot (plan_of C)) (fit : Fits F A B.b B.f) (free m : List ℕ) (k : At m B.b (B.f ∷ B.post) free) where
    open B use {b, f, pre, post, parts, at}

    abbrev pub stores_here : List Store
    stores_here = block_stores F m0 q ro f (entry_at F m0 ro b) b (head_d free 0)

    abbrev pub free_left : List ℕ
    free_left = if needs_page f (entry_at F m0 ro b) then tail free else free

    need_one : needs_page f (entry_at F m0 ro b) ≡ true → 1 ≤ length free
    unfolding new_pages
    need_one z = omega (arith, rw z at k.enough)

    ready : Ready C B m (head_d free 0)
    ready =
        record {
          fit = fit;
          sound = k.step.sound;
          same = k.ahead b (omega arith) (spot_inside (plan_of C) B);
          same_l1 = λ t i z h. k.ahead_l1 b t i (omega arith) (spot_inside (plan_of C) B) z h;
          fresh = λ z. k.is_free (head_d free 0) (head_times free (need_one z));
        }

    done : Result C B m (head_d free 0) ready stores_here
    done = block C B m (head_d free 0) ready

    -- the pages that are left of the free ones
    tail_times : (xs : List ℕ) (x : ℕ) → 1 ≤ length xs → times x xs ≡ times x (tail xs) + times x (head_d xs 0 ∷ [])
    unfolding head_d times
    tail_times [] x h = absurd (omega arith)
    tail_times (y ∷ ys) x h = omega arith

    tail_length : (xs : List ℕ) → length (tail xs) ≡ length xs - 1
    tail_length [] = omega arith
    tail_length (y ∷ ys) = omega arith

    left_free : (x : ℕ) → 0 < times x free_left → (lent F x ≡ true) × (times x (pages_of F rs) + times x (links F (apply stores_here m) rs) ≡ 0)
    left_free x l =
        split (needs_page f (entry_at F m0 ro b))
        (λ z.
        let l' : 0 < times x (tail free) = rw z at l in
        let t = tail_times free x (need_one z) in
        let g = k.is_free x (omega (arith, t)) in
        let ne : x ≢ head_d free 0 = λ y. omega (arith, t, k.once x, ap (λ (w : ℕ). times x (w ∷ [])) (sym y), times_one x) in
        (g.0, (done.1 (head_d free 0) (λ _. refl)).still_free x ne g.1))
        (λ z.
        let l' : 0 < times x free = rw z at l in
        let g = k.is_free x l' in
        (g.0, (done.1 (suc x) (λ y. absurd (true≢false (sym y ∙ z)))).still_free x (λ y. omega (arith, y)) g.1))

    left_once : (x : ℕ) → times x free_left ≤ 1
    left_once x =
        split (needs_page f (entry_at F m0 ro b))
        (λ z. rw z (omega (arith, tail_times free x (need_one z), k.once x)))
        (λ z. rw z (k.once x))

    left_enough : new_pages F m0 ro (suc b) post ≤ length free_left
    unfolding new_pages
    left_enough =
        split (needs_page f (entry_at F m0 ro b))
        (λ z. rw z (omega (arith, tail_length free, rw z at k.enough)))
        (λ z. rw z (omega (arith, rw z at k.enough)))

    here_form : get_or fs (length pre) want_table ≡ f
    here_form = ap (λ (l : List Form). get_or l (length pre) want_table) parts ∙ get_or-append_seam pre f post want_table

    next_step : (m' : List ℕ) → Step (plan_of C) b (suc b) m m' → So m'
    next_step m' t =
        step_trans (plan_of C) b0 past m0 m m' k.step
        (step_widen (plan_of C) b (suc b) b0 past m m' (omega (arith, at)) (omega (arith, at, ap length parts ∙ length-append pre (f ∷ post))) t)

    pub next : At (apply stores_here m) (suc b) post free_left
    next =
        let end = done.1 (head_d free 0) (λ _. refl) in
        record {
          step = next_step (apply stores_here m) end.step;
          ahead = λ c l u. end.other_entries c (λ z. omega (arith, z)) u ∙ k.ahead c (omega arith) u;
          ahead_l1 = λ c t i l u z h.
              end.other_pages c t i (λ y. omega (arith, y)) u (entry_word F m0 m ro c (k.ahead c (omega arith) u) ∙ z) h ∙ k.ahead_l1 c t i (omega arith) u z h;
          is_free = left_free;
          once = left_once;
          enough = left_enough;
          behind = λ i l u.
              split (eqb (b0 + i) b)
              (λ z. let same : b0 + i ≡ b = eqb-true (b0 + i) b z in
              let ii : i ≡ length pre = omega (arith, at) in
              subst₂ (λ (x : Form) (y : ℕ). IsForm x (entry_at F (apply stores_here m) ro y) × ((n : ℕ) → n < space F → pn2 n ≡ y → walk F (apply stores_here m) ro n ≡ perm (A n)))
              (sym (ap (λ (j : ℕ). get_or fs j want_table) ii ∙ here_form)) (sym same) (end.form, end.reads))
              (λ z. let ne : b0 + i ≢ b = eqb-false (b0 + i) b z in
              behind_keep m (apply stores_here m) b end.step k.behind i (omega arith) u);
        }

  -- ---- all blocks

  abbrev pub spot : (pre : List Form) (f : Form) (post : List Form) → fs ≡ pre ++ f ∷ post → (b : ℕ) → b ≡ b0 + length pre → Spot (plan_of C)
  spot pre f post e b at = record { b = b; f = f; pre = pre; post = post; parts = e; at = at }

  all : (post pre : List Form) (b : ℕ) (free m : List ℕ) → fs ≡ pre ++ post → b ≡ b0 + length pre → FitsAll F A b post → At m b post free
      → Along So (stores_from F m0 q ro b post free) m × Behind (apply (stores_from F m0 q ro b post free) m) (b + length post)
  unfolding stores_from
  all [] pre b free m e at fit k = (along_none So m k.step, subst₂ Behind (sym (apply_none m)) (sym (add-zero b)) k.behind)
  all (f ∷ post) pre b free m e at fit k =
      let B : Spot (plan_of C) = spot pre f post e b at in
      let first : List Store = stores_here B fit.0 free m k in
      let r = all post (pre ++ (f ∷ [])) (suc b) (free_left B fit.0 free m k) (apply first m)
      (e ∙ sym (append_assoc pre (f ∷ []) post)) (omega (arith, length-append pre (f ∷ []))) fit.1 (next B fit.0 free m k) in
      let z : suc b + length post ≡ b + suc (length post) = omega arith in (
        along_append So first _ m
            (along_map (Step (plan_of C) b (suc b) m) So (next_step B fit.0 free m k) first m (done B fit.0 free m k).0)
            r.0,
        subst₂ Behind (sym (apply_append first _ m)) z r.1,
      )

  -- the stores of the call, from the memory that it finds
  module _ (s0 : Sound F rs m0) (fits : FitsAll F A b0 fs) (free : List ℕ)
      (is_free : (x : ℕ) → 0 < times x free → (lent F x ≡ true) × (times x (pages_of F rs) + times x (links F m0 rs) ≡ 0))
      (once : (x : ℕ) → times x free ≤ 1) (enough : new_pages F m0 ro b0 fs ≤ length free) where
    pub at_start : At m0 b0 fs free
    at_start =
        record {
          step = step_refl (plan_of C) b0 past m0 s0;
          ahead = λ c l u. refl;
          ahead_l1 = λ c t i l u z h. refl;
          is_free = is_free;
          once = once;
          enough = enough;
          behind = λ i l u. absurd (omega arith);
        }

    pub one_call : Along So (stores_from F m0 q ro b0 fs free) m0 × Behind (apply (stores_from F m0 q ro b0 fs free) m0) past
    one_call = all fs [] b0 free m0 refl (omega arith) fits at_start
