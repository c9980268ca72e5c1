-- A sound table, as facts about its entries and its pages in use.
use mathlib.Core.Path.{◌≡◌, refl, sym, ap}
use mathlib.Core.Bool.{true}
use mathlib.Core.Logic.{◌≢◌}
use mathlib.Core.List.{List}
use Prim.Native.Nat.{ℕ, ◌+◌, ◌*◌, ◌≤◌, ◌<◌}
use native.Mathlib.Omega.{arith}
use lib.ListN.{length}
use Rattle.model.specs.Numbers.{distinct, each, every}
use Rattle.model.specs.Entry.{Entry, clean, flat, invalid, pieces, table}
use Rattle.model.specs.Frame.{Frame, blocks, lent, word_at}
use Rattle.model.specs.Walk.{entry_at, root_pages}
use Rattle.model.specs.Sound.{clean_page, link_of, links_in, sound_entry, sound_root, sound_table, used}
use Rattle.laws.proofs.Choices.{and_both, and_true}
use Rattle.laws.proofs.Every.{every_all, every_in}
use Rattle.laws.proofs.Sums.{sum, sum_one, sum_some, sum_two, times_measure, total, total_one, total_some, total_two}
use Rattle.laws.proofs.Times.{distinct_times, each_all, each_at, times, times_distinct, times_one, times_single}
use Rattle.theory.proofs.Used.{links, links_measure, links_in_measure, pages_measure, pages_of, passes, used_measure}

module _ (F : Frame) where
  pub links_in_times : (m : List ℕ) (x r : ℕ) → times x (links_in F m r) ≡ sum (λ b. times x (link_of (entry_at F m r b))) (blocks F) 0
  links_in_times m x r = links_in_measure F (times x) (times_measure x) m r

  pub links_times : (m : List ℕ) (x : ℕ) (rs : List ℕ) → times x (links F m rs) ≡ total (λ r. times x (links_in F m r)) rs
  links_times m x rs = links_measure F (times x) (times_measure x) m rs

  pub table_once : (t : ℕ) → times t (link_of (table t)) ≡ 1
  unfolding link_of
  table_once t = times_one t

  link_times : (m : List ℕ) (r b t : ℕ) → entry_at F m r b ≡ table t → times t (link_of (entry_at F m r b)) ≡ 1
  unfolding link_of
  link_times m r b t e = rw e (times_one t)

  pub link_named : (e : Entry) (t : ℕ) → 0 < times t (link_of e) → e ≡ table t
  unfolding link_of times
  link_named (flat p) t h = absurd (omega arith)
  link_named (pieces i) t h = absurd (omega arith)
  link_named (table x) t h = ap table (sym (times_single t x h))
  link_named invalid t h = absurd (omega arith)

  module _ (rs : List ℕ) where
    -- ---- which entry names which page

    pub link_in : (m : List ℕ) (r b t : ℕ) → 0 < times r rs → b < blocks F → entry_at F m r b ≡ table t → 0 < times t (links F m rs)
    link_in m r b t l u e =
        omega (
          arith,
          links_times m t rs,
          total_one (λ x. times t (links_in F m x)) r rs l,
          links_in_times m t r,
          sum_one (λ x. times t (link_of (entry_at F m r x))) b (blocks F) 0 (omega arith) (omega arith),
          link_times m r b t e,
        )

    pub link_out : (m : List ℕ) (t : ℕ) → 0 < times t (links F m rs) → (r : ℕ) × (b : ℕ) × (0 < times r rs) × (b < blocks F) × (entry_at F m r b ≡ table t)
    link_out m t h =
        let r = total_some (λ x. times t (links_in F m x)) rs (omega (arith, links_times m t rs)) in
        let b = sum_some (λ x. times t (link_of (entry_at F m r.0 x))) (blocks F) 0 (omega (arith, links_in_times m t r.0, r.2)) in
        (r.0, b.0, r.1, omega (arith, b.2), link_named (entry_at F m r.0 b.0) t b.3)

    pub record Sound (m : List ℕ) : Type 0 where
      pub size : length m ≡ F.pages * F.layout.words
      pub roots_lent : (x : ℕ) → 0 < times x (pages_of F rs) → lent F x ≡ true
      pub pass : (r b : ℕ) → 0 < times r rs → b < blocks F → passes (entry_at F m r b) ≡ true
      pub links_lent : (t : ℕ) → 0 < times t (links F m rs) → lent F t ≡ true
      pub links_clean : (t i : ℕ) → 0 < times t (links F m rs) → i < F.layout.words → clean F.layout (word_at F m t i) ≡ true
      pub once : (x : ℕ) → times x (pages_of F rs) + times x (links F m rs) ≤ 1

    -- ---- to the test, and back

    entry_passes : (m : List ℕ) (e : Entry) → sound_entry F m e ≡ true → passes e ≡ true
    unfolding sound_entry passes
    entry_passes m (flat p) h = refl
    entry_passes m (pieces i) h = refl
    entry_passes m (table t) h = refl
    entry_passes m invalid h = h

    table_sound : (m : List ℕ) (t : ℕ) → sound_entry F m (table t) ≡ true → (lent F t ≡ true) × (clean_page F m t ≡ true)
    unfolding sound_entry
    table_sound m t h = and_true (lent F t) (clean_page F m t) h

    module _ (m : List ℕ) (h : each (sound_root F m) rs ≡ true) where
      root_at : (r : ℕ) → 0 < times r rs → (each (lent F) (root_pages F r) ≡ true) × (every (λ b. sound_entry F m (entry_at F m r b)) (blocks F) 0 ≡ true)
      unfolding sound_root
      root_at r l = and_true (each (lent F) (root_pages F r)) (every (λ b. sound_entry F m (entry_at F m r b)) (blocks F) 0) (each_at (sound_root F m) rs h r l)

      entry_at_lem : (r b : ℕ) → 0 < times r rs → b < blocks F → sound_entry F m (entry_at F m r b) ≡ true
      entry_at_lem r b l u = every_in (λ x. sound_entry F m (entry_at F m r x)) (blocks F) 0 (root_at r l).1 b (omega arith) (omega arith)

      link_at : (t : ℕ) → 0 < times t (links F m rs) → (lent F t ≡ true) × (clean_page F m t ≡ true)
      link_at t l =
          let k = link_out m t l in
          table_sound m t (rw k.4 at (entry_at_lem k.0 k.1 k.2 k.3))

      root_lent_at : (x : ℕ) → 0 < times x (pages_of F rs) → lent F x ≡ true
      root_lent_at x l =
          let k = total_some (λ r. times x (root_pages F r)) rs (omega (arith, pages_measure F (times x) (times_measure x) rs)) in
          each_at (lent F) (root_pages F k.0) (root_at k.0 k.1).0 x k.2

    pub to_sound : (m : List ℕ) → length m ≡ F.pages * F.layout.words → sound_table F m rs ≡ true → Sound m
    unfolding sound_table clean_page
    to_sound m size h =
        let a = and_true (each (sound_root F m) rs) (distinct (used F m rs)) h in
        record {
          size = size;
          roots_lent = root_lent_at m a.0;
          pass = λ r b l u. entry_passes m (entry_at F m r b) (entry_at_lem m a.0 r b l u);
          links_lent = λ t l. (link_at m a.0 t l).0;
          links_clean = λ t i l u. every_in (λ x. clean F.layout (word_at F m t x)) F.layout.words 0 (link_at m a.0 t l).1 i (omega arith) (omega arith);
          once = λ x. omega (arith, used_measure F (times x) (times_measure x) m rs, distinct_times (used F m rs) a.1 x);
        }

    entry_sound : (m : List ℕ) → Sound m → (r b : ℕ) → 0 < times r rs → b < blocks F → (e : Entry) → entry_at F m r b ≡ e → sound_entry F m e ≡ true
    unfolding sound_entry passes clean_page
    entry_sound m s r b l u (flat p) z = refl
    entry_sound m s r b l u (pieces i) z = refl
    entry_sound m s r b l u (table t) z =
        let k = link_in m r b t l u z in
        and_both (s.links_lent t k) (every_all (λ x. clean F.layout (word_at F m t x)) F.layout.words 0 (λ i v. s.links_clean t (0 + i) k (omega arith)))
    entry_sound m s r b l u invalid z = rw z at (s.pass r b l u)

    pub from_sound : (m : List ℕ) → Sound m → sound_table F m rs ≡ true
    unfolding sound_table sound_root
    from_sound m s =
        and_both
        (each_all (sound_root F m) rs (λ r l.
        and_both
        (each_all (lent F) (root_pages F r) (λ x lx. s.roots_lent x
        (omega (arith, lx, pages_measure F (times x) (times_measure x) rs, total_one (λ k. times x (root_pages F k)) r rs l))))
        (every_all (λ b. sound_entry F m (entry_at F m r b)) (blocks F) 0 (λ b u. entry_sound m s r (0 + b) l (omega arith) (entry_at F m r (0 + b)) refl))))
        (times_distinct (used F m rs) (λ x. omega (arith, used_measure F (times x) (times_measure x) m rs, s.once x)))

    module _ (m : List ℕ) (s : Sound m) where
      pub link_not_root : (r b t : ℕ) → 0 < times r rs → b < blocks F → entry_at F m r b ≡ table t → times t (pages_of F rs) ≡ 0
      link_not_root r b t l u e = omega (arith, link_in m r b t l u e, s.once t)

      -- a page of a root, and a page that is named, are different
      pub link_other : (x r b t : ℕ) → 0 < times x (pages_of F rs) → 0 < times r rs → b < blocks F → entry_at F m r b ≡ table t → x ≢ t
      link_other x r b t lx l u e z = omega (arith, link_not_root r b t l u e, lx, ap (λ (k : ℕ). times k (pages_of F rs)) z)

      -- one page is named by one entry
      pub link_root_once : (r r' b b' t : ℕ) → 0 < times r rs → 0 < times r' rs → b < blocks F → b' < blocks F
          → entry_at F m r b ≡ table t → entry_at F m r' b' ≡ table t → r ≢ r' → ⊥
      link_root_once r r' b b' t l l' u u' e e' d =
          omega (
            arith,
            s.once t,
            links_times m t rs,
            total_two (λ x. times t (links_in F m x)) r r' rs d l l',
            links_in_times m t r,
            links_in_times m t r',
            sum_one (λ x. times t (link_of (entry_at F m r x))) b (blocks F) 0 (omega arith) (omega arith),
            sum_one (λ x. times t (link_of (entry_at F m r' x))) b' (blocks F) 0 (omega arith) (omega arith),
            link_times m r b t e,
            link_times m r' b' t e',
          )

      pub link_block_once : (r b b' t : ℕ) → 0 < times r rs → b < blocks F → b' < blocks F → entry_at F m r b ≡ table t → entry_at F m r b' ≡ table t → b ≢ b' → ⊥
      link_block_once r b b' t l u u' e e' d =
          omega (
            arith,
            s.once t,
            links_times m t rs,
            total_one (λ x. times t (links_in F m x)) r rs l,
            links_in_times m t r,
            sum_two (λ x. times t (link_of (entry_at F m r x))) b b' (blocks F) 0 d (omega arith) (omega arith) (omega arith) (omega arith),
            link_times m r b t e,
            link_times m r b' t e',
          )
