-- What a walk reads: the same entries and the same L1 words give the same walk; and what the entries name, measured, when none or one of them changes.
use Rattle.std.specs.Prelude.{if◌then◌else◌}
use mathlib.Core.Path.{◌≡◌, refl, sym, ap, ◌∙◌, subst}
use mathlib.Core.Bool.{true}
use mathlib.Core.List.{List}
use Prim.Native.Nat.{ℕ, ◌+◌, ◌≤◌, ◌<◌}
use native.Mathlib.Omega.{arith}
use lib.ListN.{length}
use borrow.Author.Tests.{le-ltb, lt-ltb}
use Rattle.model.specs.Entry.{Entry, clean, decode, faults, field_of, flat, invalid, pieces, table}
use Rattle.model.specs.Frame.{Frame, blocks, lent, space, word_at}
use Rattle.model.specs.Walk.{entry_at, entry_page, found, l2_word, pn0, pn1, pn2, walk}
use Rattle.model.specs.Sound.{link_of, links_in}
use Rattle.laws.proofs.Sums.{Measure, length_measure, sum, sum_change, sum_cong, times_measure, total, total_change, total_cong}
use Rattle.laws.proofs.Times.{times}
use Rattle.theory.proofs.Used.{links, links_measure, links_in_measure, pages_of}
use Rattle.theory.proofs.Tables.{Sound}

module _ (F : Frame) where
  pub entry_word : (m m' : List ℕ) (r b : ℕ) → l2_word F m' r b ≡ l2_word F m r b → entry_at F m' r b ≡ entry_at F m r b
  unfolding entry_at
  entry_word m m' r b e = ap (λ (w : ℕ). if lent F (entry_page F r b) then decode F.layout w else invalid) e

  pub entry_lent : (m : List ℕ) (r b : ℕ) → lent F (entry_page F r b) ≡ true → entry_at F m r b ≡ decode F.layout (l2_word F m r b)
  unfolding entry_at
  entry_lent m r b h = rw h

  pub found_same : (m m' : List ℕ) (e : Entry) (n : ℕ) → ((t : ℕ) → e ≡ table t → word_at F m' t (pn1 F.layout n) ≡ word_at F m t (pn1 F.layout n))
      → found F m' e n ≡ found F m e n
  unfolding found
  found_same m m' (flat p) n h = refl
  found_same m m' (pieces i) n h = refl
  found_same m m' (table t) n h = ap (λ (w : ℕ). if lent F t then field_of F.layout w (pn0 F.layout n) else faults) (h t refl)
  found_same m m' invalid n h = refl

  pub found_table : (m : List ℕ) (t n : ℕ) → lent F t ≡ true → found F m (table t) n ≡ field_of F.layout (word_at F m t (pn1 F.layout n)) (pn0 F.layout n)
  unfolding found
  found_table m t n h = rw h

  pub walk_in : (m : List ℕ) (r n : ℕ) → n < space F → walk F m r n ≡ found F m (entry_at F m r (pn2 n)) n
  unfolding walk
  walk_in m r n h = rw (lt-ltb n (space F) h)

  pub walk_same : (m m' : List ℕ) (r n : ℕ) → n < space F → entry_at F m' r (pn2 n) ≡ entry_at F m r (pn2 n)
      → ((t : ℕ) → entry_at F m r (pn2 n) ≡ table t → word_at F m' t (pn1 F.layout n) ≡ word_at F m t (pn1 F.layout n))
      → walk F m' r n ≡ walk F m r n
  walk_same m m' r n h e w =
      walk_in m' r n h
      ∙ ap (λ (x : Entry). found F m' x n) e
      ∙ found_same m m' (entry_at F m r (pn2 n)) n w
      ∙ sym (walk_in m r n h)

  module _ (rs : List ℕ) where
    -- ---- the same entries

    abbrev pub SameEntries : List ℕ → List ℕ → Type 0
    SameEntries m m' = (r b : ℕ) → 0 < times r rs → b < blocks F → entry_at F m' r b ≡ entry_at F m r b

    -- entries that name as much name as much together
    pub same_measure : (μ : List ℕ → ℕ) → Measure μ → (m m' : List ℕ)
        → ((r b : ℕ) → 0 < times r rs → b < blocks F → μ (link_of (entry_at F m' r b)) ≡ μ (link_of (entry_at F m r b)))
        → μ (links F m' rs) ≡ μ (links F m rs)
    same_measure μ k m m' h =
        links_measure F μ k m' rs
        ∙ total_cong (λ r. μ (links_in F m' r)) (λ r. μ (links_in F m r)) rs
        (λ r l. links_in_measure F μ k m' r
        ∙ sum_cong (λ b. μ (link_of (entry_at F m' r b))) (λ b. μ (link_of (entry_at F m r b))) (blocks F) 0 (λ b lo hi. h r b l (omega arith))
        ∙ sym (links_in_measure F μ k m r))
        ∙ sym (links_measure F μ k m rs)

    pub same_times : (m m' : List ℕ) → SameEntries m m' → (x : ℕ) → times x (links F m' rs) ≡ times x (links F m rs)
    same_times m m' h x = same_measure (times x) (times_measure x) m m' (λ r b l u. ap (λ (e : Entry). times x (link_of e)) (h r b l u))

    pub same_length : (m m' : List ℕ) → SameEntries m m' → length (links F m' rs) ≡ length (links F m rs)
    same_length m m' h = same_measure (λ l. length l) length_measure m m' (λ r b l u. ap (λ (e : Entry). length (link_of e)) (h r b l u))

    pub same_sound : (m m' : List ℕ) → Sound F rs m → length m' ≡ length m → SameEntries m m'
        → ((t i : ℕ) → 0 < times t (links F m rs) → i < F.layout.words → clean F.layout (word_at F m' t i) ≡ true)
        → Sound F rs m'
    same_sound m m' s len h c =
        record {
          size = len ∙ s.size;
          roots_lent = s.roots_lent;
          pass = λ r b l u. rw (h r b l u) (s.pass r b l u);
          links_lent = λ t l. s.links_lent t (subst (λ (k : ℕ). 0 < k) (same_times m m' h t) l);
          links_clean = λ t i l u. c t i (subst (λ (k : ℕ). 0 < k) (same_times m m' h t) l) u;
          once = λ x. subst (λ (k : ℕ). times x (pages_of F rs) + k ≤ 1) (sym (same_times m m' h x)) (s.once x);
        }

    -- ---- one entry changes

    module _ (m m' : List ℕ) (ro b : ℕ) (here : times ro rs ≡ 1) (u : b < blocks F)
        (others : (r c : ℕ) → 0 < times r rs → c < blocks F → ((r ≡ ro) × (c ≡ b) → ⊥) → entry_at F m' r c ≡ entry_at F m r c) where
      pub change_measure : (μ : List ℕ → ℕ) → Measure μ → μ (links F m' rs) + μ (link_of (entry_at F m ro b)) ≡ μ (links F m rs) + μ (link_of (entry_at F m' ro b))
      change_measure μ k =
          let outer : total (λ r. μ (links_in F m' r)) rs + μ (links_in F m ro) ≡ total (λ r. μ (links_in F m r)) rs + μ (links_in F m' ro)
          = total_change (λ r. μ (links_in F m r)) (λ r. μ (links_in F m' r)) ro rs
          (λ r l ne. links_in_measure F μ k m' r
          ∙ sum_cong (λ c. μ (link_of (entry_at F m' r c))) (λ c. μ (link_of (entry_at F m r c))) (blocks F) 0
          (λ c lo hi. ap (λ (e : Entry). μ (link_of e)) (others r c l (omega arith) (λ z. ne z.0)))
          ∙ sym (links_in_measure F μ k m r))
          here in
          let inner : sum (λ c. μ (link_of (entry_at F m' ro c))) (blocks F) 0 + μ (link_of (entry_at F m ro b))
          ≡ sum (λ c. μ (link_of (entry_at F m ro c))) (blocks F) 0 + μ (link_of (entry_at F m' ro b))
          = sum_change (λ c. μ (link_of (entry_at F m ro c))) (λ c. μ (link_of (entry_at F m' ro c))) b (blocks F) 0
          (λ c lo hi ne. ap (λ (e : Entry). μ (link_of e)) (others ro c (omega arith) (omega arith) (λ z. ne z.1)))
          (omega arith) (omega arith) in
          omega (arith, links_measure F μ k m' rs, links_measure F μ k m rs, links_in_measure F μ k m' ro, links_in_measure F μ k m ro)

      pub change_times : (x : ℕ) → times x (links F m' rs) + times x (link_of (entry_at F m ro b)) ≡ times x (links F m rs) + times x (link_of (entry_at F m' ro b))
      change_times x = change_measure (times x) (times_measure x)

      pub change_length : length (links F m' rs) + length (link_of (entry_at F m ro b)) ≡ length (links F m rs) + length (link_of (entry_at F m' ro b))
      change_length = change_measure (λ l. length l) length_measure

-- outside the address space every walk faults
pub outside_space : (F : Frame) (m : List ℕ) (r n : ℕ) → space F ≤ n → walk F m r n ≡ faults
unfolding walk
outside_space F m r n h = rw (le-ltb n (space F) h)
