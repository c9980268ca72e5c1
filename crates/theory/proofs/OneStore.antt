-- One store: into a free page, into a linked L1 page, or into a root. What it keeps of the table and of every walk.
use mathlib.Core.Path.{◌≡◌, sym, ap, ap₂, ◌∙◌, subst, subst₂}
use mathlib.Core.Bool.{true, false, ◌&&◌}
use mathlib.Core.Logic.{◌⊎◌, inl, inr}
use mathlib.Core.List.{List, ◌∷◌, ◌++◌}
use Prim.Native.Nat.{ℕ, ◌+◌, ◌^◌, ◌≤◌, ◌<◌}
use native.Mathlib.Nat.{le_of_eq}
use native.Mathlib.Omega.{arith}
use lib.Dec.{eqb, ltb}
use lib.ListN.{length, get_or}
use borrow.Author.Tests.{eqb-true, eqb-false, eq-eqb, ltb-true, ltb-false}
use Rattle.model.specs.Entry.{Entry, clean, decode, field_of, perm, table}
use Rattle.model.specs.Frame.{Frame, blocks, lent, space, word_at}
use Rattle.model.specs.Walk.{entry_at, entry_page, entry_place, found, l2_word, pn0, pn1, pn2, walk}
use Rattle.model.specs.Sound.{link_of}
use Rattle.model.specs.Forms.{Form}
use Rattle.model.specs.Stores.{new_pages}
use Rattle.laws.proofs.Choices.{and_both, and_false, and_true, split}
use Rattle.laws.proofs.Times.{times}
use Rattle.theory.proofs.Used.{links, pages_of, passes}
use Rattle.theory.proofs.Entries.{decode_fits}
use Rattle.theory.proofs.Memory.{put, put_length, put_low, put_other_entry, put_other_page, put_same}
use Rattle.theory.proofs.Frames.{Ok, pn1_lt, pn2_lt}
use Rattle.theory.proofs.Roots.{page_of_lem, pages_apart, place_inj, place_lt}
use Rattle.theory.proofs.Tables.{Sound, link_block_once, link_in, link_named, link_not_root, link_root_once, table_once}
use Rattle.theory.proofs.Walks.{SameEntries, change_length, change_times, entry_lent, entry_word, found_same, found_table, same_length, same_sound, walk_in, walk_same}
use Rattle.theory.proofs.Plans.{Plan, Step, need, new_pages_change, new_pages_same}

-- ---- the words of L2 entries

-- the memory with word w at L2 entry b of root r
abbrev pub put_l2 : Frame → List ℕ → ℕ → ℕ → ℕ → List ℕ
put_l2 F m r b w = put F m (entry_page F r b) (entry_place F b) w

module _ (F : Frame) (ok : Ok F) (rs m : List ℕ) (s : Sound F rs m) where
  pub root_lent : (r b : ℕ) → 0 < times r rs → b < blocks F → lent F (entry_page F r b) ≡ true
  root_lent r b l u = s.roots_lent (entry_page F r b) (page_of_lem F ok rs r b l u)

  -- to a page that is of no root
  pub l2_keep : (p i w r b : ℕ) → lent F p ≡ true → times p (pages_of F rs) ≡ 0 → i < F.layout.words → 0 < times r rs → b < blocks F
      → l2_word F (put F m p i w) r b ≡ l2_word F m r b
  unfolding l2_word
  l2_keep p i w r b lp none h l u =
      put_other_page F m p i w (entry_page F r b) (entry_place F b) (λ z. omega (arith, none, page_of_lem F ok rs r b l u, ap (λ (k : ℕ). times k (pages_of F rs)) z))
      lp (root_lent r b l u) h (place_lt F ok b u)

  -- to an L2 entry
  pub l2_same : (r b w : ℕ) → 0 < times r rs → b < blocks F → l2_word F (put_l2 F m r b w) r b ≡ w
  unfolding l2_word
  l2_same r b w l u = put_same F m (entry_page F r b) (entry_place F b) w s.size (root_lent r b l u) (place_lt F ok b u)

  pub l2_other : (r b w r' c : ℕ) → 0 < times r rs → b < blocks F → 0 < times r' rs → c < blocks F → ((r' ≡ r) × (c ≡ b) → ⊥)
      → l2_word F (put_l2 F m r b w) r' c ≡ l2_word F m r' c
  unfolding l2_word
  l2_other r b w r' c l u l' u' ne =
      split (eqb (entry_page F r' c) (entry_page F r b))
      (λ q. let same : entry_page F r' c ≡ entry_page F r b = eqb-true (entry_page F r' c) (entry_page F r b) q in
      subst (λ (p : ℕ). word_at F (put_l2 F m r b w) p (entry_place F c) ≡ word_at F m p (entry_place F c)) (sym same)
      (put_other_entry F m (entry_page F r b) (entry_place F b) w (entry_place F c)
      (λ z. split (eqb r' r)
      (λ y. let rr : r' ≡ r = eqb-true r' r y in
      ne (rr, place_inj F ok r c b u' u (ap (λ (x : ℕ). entry_page F x c) (sym rr) ∙ same) z))
      (λ y. pages_apart F ok rs (λ x. omega (arith, s.once x)) r' r c b l' l u' u (eqb-false r' r y) same))
      (root_lent r b l u) (place_lt F ok b u) (place_lt F ok c u')))
      (λ q. put_other_page F m (entry_page F r b) (entry_place F b) w (entry_page F r' c) (entry_place F c) (eqb-false (entry_page F r' c) (entry_page F r b) q)
      (root_lent r b l u) (root_lent r' c l' u') (place_lt F ok b u) (place_lt F ok c u'))

  pub l2_page : (r b w x j : ℕ) → 0 < times r rs → b < blocks F → lent F x ≡ true → times x (pages_of F rs) ≡ 0 → j < F.layout.words
      → word_at F (put_l2 F m r b w) x j ≡ word_at F m x j
  l2_page r b w x j l u lx none h =
      put_other_page F m (entry_page F r b) (entry_place F b) w x j (λ z. omega (arith, none, page_of_lem F ok rs r b l u, ap (λ (k : ℕ). times k (pages_of F rs)) z))
      (root_lent r b l u) lx (place_lt F ok b u) h

module _ (P : Plan) (lo hi : ℕ) where
  open P use {F, ok, rs, ro, here, A, b0, fs, inside}

  abbrev S : List ℕ → List ℕ → Type 0
  S = Step P lo hi

  -- a step that changes no entry
  quiet : (m m' : List ℕ) → Sound F rs m' → SameEntries F rs m m'
      → ((r n : ℕ) → 0 < times r rs → n < space F → (walk F m' r n ≡ walk F m r n) ⊎ ((r ≡ ro) × (walk F m' r n ≡ perm (A n))))
      → (((i : ℕ) → get_or m i 0 < 16 ^ F.layout.fields) → (i : ℕ) → get_or m' i 0 < 16 ^ F.layout.fields)
      → S m m'
  quiet m m' s h w low =
      record {
        sound = s;
        reads = w;
        entries = λ r b l u ne. h r b l u;
        weight = le_of_eq (ap₂ (λ (a c : ℕ). a + c) (new_pages_same F m m' ro b0 fs (λ c l u. h ro c (omega arith) (omega arith))) (same_length F rs m m' h));
        low = low;
      }

  -- into a free page
  pub step_free : (m : List ℕ) (p i w : ℕ) → Sound F rs m → lent F p ≡ true → times p (pages_of F rs) + times p (links F m rs) ≡ 0 → i < F.layout.words → w < 16 ^ F.layout.fields → S m (put F m p i w)
  step_free m p i w s lp none h small =
      let entries : SameEntries F rs m (put F m p i w)
      = λ r b l u. entry_word F m (put F m p i w) r b
      (l2_keep F ok rs m s p i w r b lp (omega arith) h l u) in
      let words : (t j : ℕ) → 0 < times t (links F m rs) → j < F.layout.words → word_at F (put F m p i w) t j ≡ word_at F m t j
      = λ t j l u. put_other_page F m p i w t j (λ z. omega (arith, none, l, ap (λ (k : ℕ). times k (links F m rs)) z)) lp (s.links_lent t l) h u in
      quiet m (put F m p i w)
      (same_sound F rs m (put F m p i w) s (put_length F m p i w) entries (λ t j l u. rw (words t j l u) (s.links_clean t j l u)))
      entries
      (λ r n l u. inl (walk_same F m (put F m p i w) r n u (entries r (pn2 n) l (pn2_lt F ok n u))
      (λ t e. words t (pn1 F.layout n) (link_in F rs m r (pn2 n) t l (pn2_lt F ok n u) e) (pn1_lt F ok n))))
      (put_low F (16 ^ F.layout.fields) m p i w small)

  -- into the L1 page of block b of root ro
  pub step_l1 : (m : List ℕ) (b t i w : ℕ) → Sound F rs m → b < blocks F → entry_at F m ro b ≡ table t → i < F.layout.words → clean F.layout w ≡ true → w < 16 ^ F.layout.fields
      → ((n : ℕ) → n < space F → pn2 n ≡ b → pn1 F.layout n ≡ i → field_of F.layout w (pn0 F.layout n) ≡ perm (A n))
      → S m (put F m t i w)
  step_l1 m b t i w s ub e h cl small fits =
      let lr : 0 < times ro rs = omega arith in
      let linked : 0 < times t (links F m rs) = link_in F rs m ro b t lr ub e in
      let lt : lent F t ≡ true = s.links_lent t linked in
      let m' : List ℕ = put F m t i w in
      let entries : SameEntries F rs m m'
      = λ r c l u. entry_word F m m' r c
      (l2_keep F ok rs m s t i w r c lt (link_not_root F rs m s ro b t lr ub e) h l u) in
      let words : (x j : ℕ) → 0 < times x (links F m rs) → j < F.layout.words → ((x ≡ t) × (j ≡ i) → ⊥) → word_at F m' x j ≡ word_at F m x j
      = λ x j l u ne. split (eqb x t)
      (λ q. let same : x ≡ t = eqb-true x t q in
      subst (λ (y : ℕ). word_at F m' y j ≡ word_at F m y j) (sym same) (put_other_entry F m t i w j (λ z. ne (same, z)) lt h u))
      (λ q. put_other_page F m t i w x j (eqb-false x t q) lt (s.links_lent x l) h u) in
      let clean_at : (x j : ℕ) → 0 < times x (links F m rs) → j < F.layout.words → clean F.layout (word_at F m' x j) ≡ true
      = λ x j l u. split (eqb x t && eqb j i)
      (λ q. let both = and_true (eqb x t) (eqb j i) q in
      subst₂ (λ (y k : ℕ). clean F.layout (word_at F m' y k) ≡ true) (sym (eqb-true x t both.0)) (sym (eqb-true j i both.1))
      (rw (put_same F m t i w s.size lt h) cl))
      (λ q. rw (words x j l u (λ z. and_false (eqb x t) (eqb j i) q (eq-eqb x t z.0) (eq-eqb j i z.1))) (s.links_clean x j l u)) in
      quiet m m'
      (same_sound F rs m m' s (put_length F m t i w) entries clean_at)
      entries
      (λ r n l u.
      split (eqb r ro && eqb (pn2 n) b && eqb (pn1 F.layout n) i)
      (λ q.
      let x = and_true (eqb r ro && eqb (pn2 n) b) (eqb (pn1 F.layout n) i) q in
      let y = and_true (eqb r ro) (eqb (pn2 n) b) x.0 in
      let rr : r ≡ ro = eqb-true r ro y.0 in
      let bb : pn2 n ≡ b = eqb-true (pn2 n) b y.1 in
      let ii : pn1 F.layout n ≡ i = eqb-true (pn1 F.layout n) i x.1 in
      inr (
        rr,
        walk_in F m' r n u
            ∙ ap₂ (λ (a c : ℕ). found F m' (entry_at F m' a c) n) rr bb
            ∙ ap (λ (z : Entry). found F m' z n) (entries ro b lr ub ∙ e)
            ∙ found_table F m' t n lt
            ∙ ap (λ (k : ℕ). field_of F.layout (word_at F m' t k) (pn0 F.layout n)) ii
            ∙ ap (λ (k : ℕ). field_of F.layout k (pn0 F.layout n)) (put_same F m t i w s.size lt h)
            ∙ fits n u bb ii,
      ))
      (λ q.
      inl
      (walk_same F m m' r n u (entries r (pn2 n) l (pn2_lt F ok n u))
      (λ x z. words x (pn1 F.layout n) (link_in F rs m r (pn2 n) x l (pn2_lt F ok n u) z) (pn1_lt F ok n)
      (λ k. apart r n l u (z ∙ ap table k.0) q k.1)))))
      (put_low F (16 ^ F.layout.fields) m t i w small)
    where
      apart : (r n : ℕ) → 0 < times r rs → n < space F → entry_at F m r (pn2 n) ≡ table t → (eqb r ro && eqb (pn2 n) b && eqb (pn1 F.layout n) i) ≡ false
          → pn1 F.layout n ≡ i → ⊥
      apart r n l u z q k =
          split (eqb r ro)
          (λ rr. split (eqb (pn2 n) b)
          (λ bb. and_false (eqb r ro && eqb (pn2 n) b) (eqb (pn1 F.layout n) i) q (and_both rr bb) (eq-eqb (pn1 F.layout n) i k))
          (λ bb. link_block_once F rs m s ro (pn2 n) b t (omega arith) (pn2_lt F ok n u) ub
          (ap (λ (a : ℕ). entry_at F m a (pn2 n)) (sym (eqb-true r ro rr)) ∙ z) e (eqb-false (pn2 n) b bb)))
          (λ rr. link_root_once F rs m s r ro (pn2 n) b t l (omega arith) (pn2_lt F ok n u) ub z e (eqb-false r ro rr))

  -- into entry b of root ro
  module _ (m : List ℕ) (b w : ℕ) (e' : Entry) (s : Sound F rs m) (ub : b < blocks F) (dec : decode F.layout w ≡ e') (passed : passes e' ≡ true)
      (fresh : (t : ℕ) → e' ≡ table t → (lent F t ≡ true) × (times t (pages_of F rs) + times t (links F m rs) ≡ 0) × ((i : ℕ) → i < F.layout.words → clean F.layout (word_at F m t i) ≡ true))
      (fits : (n : ℕ) → n < space F → pn2 n ≡ b → found F m e' n ≡ perm (A n)) where
    lr : 0 < times ro rs
    lr = omega arith

    abbrev m' : List ℕ
    m' = put_l2 F m ro b w

    -- a page that is named, or is to be named, is no root's
    words : (x j : ℕ) → lent F x ≡ true → times x (pages_of F rs) ≡ 0 → j < F.layout.words → word_at F m' x j ≡ word_at F m x j
    words x j lx none u = l2_page F ok rs m s ro b w x j lr ub lx none u

    linked : (x j : ℕ) → 0 < times x (links F m rs) → j < F.layout.words → word_at F m' x j ≡ word_at F m x j
    linked x j l u = words x j (s.links_lent x l) (omega (arith, s.once x)) u

    pub l2_entry : entry_at F m' ro b ≡ e'
    l2_entry = entry_lent F m' ro b (root_lent F ok rs m s ro b lr ub) ∙ ap (decode F.layout) (l2_same F ok rs m s ro b w lr ub) ∙ dec

    pub l2_others : (r c : ℕ) → 0 < times r rs → c < blocks F → ((r ≡ ro) × (c ≡ b) → ⊥) → entry_at F m' r c ≡ entry_at F m r c
    l2_others r c l u ne = entry_word F m m' r c (l2_other F ok rs m s ro b w r c lr ub l u ne)

    change : (x : ℕ) → times x (links F m' rs) + times x (link_of (entry_at F m ro b)) ≡ times x (links F m rs) + times x (link_of e')
    change x = change_times F rs m m' ro b here ub l2_others x ∙ ap (λ (e : Entry). times x (links F m rs) + times x (link_of e)) l2_entry

    -- a page named afterwards is the new one, or was named before
    named : (t : ℕ) → 0 < times t (links F m' rs) → (e' ≡ table t) ⊎ (0 < times t (links F m rs))
    named t l =
        split (ltb 0 (times t (link_of e')))
        (λ q. inl (link_named F e' t (ltb-true 0 (times t (link_of e')) q)))
        (λ q. let none : times t (link_of e') ≤ 0 = ltb-false 0 (times t (link_of e')) q in inr (omega (arith, change t)))

    l2_sound : Sound F rs m'
    l2_sound =
        record {
          size = put_length F m (entry_page F ro b) (entry_place F b) w ∙ s.size;
          roots_lent = s.roots_lent;
          pass = λ r c l u.
              split (eqb r ro && eqb c b)
              (λ q. let both = and_true (eqb r ro) (eqb c b) q in
              subst₂ (λ (y k : ℕ). passes (entry_at F m' y k) ≡ true) (sym (eqb-true r ro both.0)) (sym (eqb-true c b both.1)) (rw l2_entry passed))
              (λ q. rw (l2_others r c l u (λ z. and_false (eqb r ro) (eqb c b) q (eq-eqb r ro z.0) (eq-eqb c b z.1))) (s.pass r c l u));
          links_lent = λ t l. lent_one t (named t l);
          links_clean = λ t i l u. clean_one t i u (named t l);
          once = λ x.
              split (ltb 0 (times x (link_of e')))
              (λ q. let n = link_named F e' x (ltb-true 0 (times x (link_of e')) q) in
              omega (arith, change x, (fresh x n).1, ap (λ (e : Entry). times x (link_of e)) n, table_once F x))
              (λ q. let none : times x (link_of e') ≤ 0 = ltb-false 0 (times x (link_of e')) q in omega (arith, change x, s.once x));
        }
      where
        lent_one : (t : ℕ) → (e' ≡ table t) ⊎ (0 < times t (links F m rs)) → lent F t ≡ true
        lent_one t (inl n) = (fresh t n).0
        lent_one t (inr l) = s.links_lent t l

        clean_one : (t i : ℕ) → i < F.layout.words → (e' ≡ table t) ⊎ (0 < times t (links F m rs)) → clean F.layout (word_at F m' t i) ≡ true
        clean_one t i u (inl n) = rw (words t i (fresh t n).0 (omega (arith, (fresh t n).1)) u) ((fresh t n).2 i u)
        clean_one t i u (inr l) = rw (linked t i l u) (s.links_clean t i l u)

    pub step_l2 : (pre : List Form) (f : Form) (post : List Form) → fs ≡ pre ++ f ∷ post → b ≡ b0 + length pre → lo ≤ b → b < hi
        → need f e' + length (link_of e') ≤ need f (entry_at F m ro b) + length (link_of (entry_at F m ro b))
        → S m (put_l2 F m ro b w)
    step_l2 pre f post split-fs at l h less =
        record {
          sound = l2_sound;
          reads = λ r n lr' u.
              split (eqb r ro && eqb (pn2 n) b)
              (λ q. let both = and_true (eqb r ro) (eqb (pn2 n) b) q in
              let rr : r ≡ ro = eqb-true r ro both.0 in
              let bb : pn2 n ≡ b = eqb-true (pn2 n) b both.1 in
              inr (
                rr,
                walk_in F m' r n u
                    ∙ ap₂ (λ (a c : ℕ). found F m' (entry_at F m' a c) n) rr bb
                    ∙ ap (λ (z : Entry). found F m' z n) l2_entry
                    ∙ found_same F m m' e' n (λ t z. words t (pn1 F.layout n) (fresh t z).0 (omega (arith, (fresh t z).1)) (pn1_lt F ok n))
                    ∙ fits n u bb,
              ))
              (λ q. inl
              (walk_same F m m' r n u
              (l2_others r (pn2 n) lr' (pn2_lt F ok n u) (λ z. and_false (eqb r ro) (eqb (pn2 n) b) q (eq-eqb r ro z.0) (eq-eqb (pn2 n) b z.1)))
              (λ t z. linked t (pn1 F.layout n) (link_in F rs m r (pn2 n) t lr' (pn2_lt F ok n u) z) (pn1_lt F ok n))));
          entries = λ r c lr' u ne. l2_others r c lr' u (λ z. ne (z.0, omega (arith, z.1), omega (arith, z.1)));
          weight =
              omega (
                arith,
                less,
                new_pages_change F m m' ro b0 pre f post (λ c cl cu ne. l2_others ro c lr (omega (arith, cu, ap length split-fs)) (λ z. ne (z.1 ∙ at))),
                ap (λ (k : List Form). new_pages F m ro b0 k) split-fs,
                ap (λ (k : List Form). new_pages F m' ro b0 k) split-fs,
                ap (λ (k : ℕ). need f (entry_at F m ro k)) at,
                ap (λ (k : ℕ). need f (entry_at F m' ro k)) at,
                ap (need f) l2_entry,
                change_length F rs m m' ro b here ub l2_others,
                ap (λ (e : Entry). length (link_of e)) l2_entry,
              );
          low = put_low F (16 ^ F.layout.fields) m (entry_page F ro b) (entry_place F b) w (decode_fits F.layout ok.lawful w (ap passes dec ∙ passed));
        }
