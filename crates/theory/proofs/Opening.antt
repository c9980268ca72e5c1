-- A table with one root more, whose page was free and is now zero; and a table with one root less.
-- The idea: no entry of another domain and no L1 page lies in a free page, and zero decodes to the 1G type of none.
use mathlib.Core.Path.{◌≡◌, refl, sym, ap, ◌∙◌, subst}
use mathlib.Core.Bool.{true}
use mathlib.Core.Logic.{◌≢◌, ◌⊎◌, inl, inr}
use mathlib.Core.List.{List, [], ◌∷◌}
use Prim.Native.Nat.{ℕ, ◌+◌, ◌^◌, ◌≤◌, ◌<◌}
use native.Mathlib.Nat.{zero-mul, mul-zero}
use native.Mathlib.Omega.{arith}
use lib.Dec.{eqb, ltb}
use borrow.Author.Tests.{eqb-true, eqb-false, ltb-true, ltb-false}
use Rattle.model.specs.Entry.{Entry, decode, encode, flat, perm}
use Rattle.model.specs.Frame.{Frame, blocks, lent, space, word_at}
use Rattle.model.specs.Walk.{entry_at, entry_page, entry_place, found, l2_word, pn1, pn2, root_pages, walk}
use Rattle.model.specs.Sound.{link_of, links_in}
use Rattle.laws.proofs.Choices.{split}
use Rattle.laws.proofs.Sums.{sum_cong, sum_const, times_measure, total}
use Rattle.laws.proofs.Times.{times, times_none, times_one, times_other, times_single}
use Rattle.theory.proofs.Used.{links, links_measure, links_in_measure, pages_measure, pages_of, passes}
use Rattle.theory.proofs.Entries.{decode_flat}
use Rattle.theory.proofs.Frames.{Ok, blocks_words, pn1_lt, pn2_lt}
use Rattle.theory.proofs.Roots.{page_of_lem, place_lt}
use Rattle.theory.proofs.Tables.{Sound, link_in}
use Rattle.theory.proofs.Walks.{SameEntries, entry_lent, entry_word, outside_space, same_times, walk_in, walk_same}
use Rattle.theory.proofs.OneStore.{root_lent}
use Rattle.theory.proofs.Zeroed.{zero_here, zero_length, zero_other_page, zero_from}

-- rs' is rs with one root more, wherever it stands
pub record OneMore (root : ℕ) (rs rs' : List ℕ) : Type 0 where
  pub counts : (x : ℕ) → times x rs' ≡ times x rs + times x (root ∷ [])
  pub totals : (g : ℕ → ℕ) → total g rs' ≡ total g rs + g root

module _ (F : Frame) (root : ℕ) (rs rs' : List ℕ) (one : OneMore root rs rs') where
  pub more_pages : (x : ℕ) → times x (pages_of F rs') ≡ times x (pages_of F rs) + times x (root_pages F root)
  more_pages x =
      pages_measure F (times x) (times_measure x) rs' ∙ one.totals (λ r. times x (root_pages F r))
      ∙ ap (λ (k : ℕ). k + times x (root_pages F root)) (sym (pages_measure F (times x) (times_measure x) rs))

  pub more_links : (m : List ℕ) (x : ℕ) → times x (links F m rs') ≡ times x (links F m rs) + times x (links_in F m root)
  more_links m x =
      links_measure F (times x) (times_measure x) m rs' ∙ one.totals (λ r. times x (links_in F m r))
      ∙ ap (λ (k : ℕ). k + times x (links_in F m root)) (sym (links_measure F (times x) (times_measure x) m rs))

  -- a root of the longer list is one of the shorter, or the new one
  pub old_or_new : (r : ℕ) → 0 < times r rs' → (0 < times r rs) ⊎ (r ≡ root)
  old_or_new r l =
      split (ltb 0 (times r rs))
      (λ z. inl (ltb-true 0 (times r rs) z))
      (λ z. inr (times_single r root (omega (arith, one.counts r, ltb-false 0 (times r rs) z))))

  -- ---- one root less: what is sound stays sound

  pub less_sound : (m : List ℕ) → Sound F rs' m → Sound F rs m
  less_sound m s =
      record {
        size = s.size;
        roots_lent = λ x l. s.roots_lent x (omega (arith, more_pages x));
        pass = λ r b l u. s.pass r b (omega (arith, one.counts r)) u;
        links_lent = λ t l. s.links_lent t (omega (arith, more_links m t));
        links_clean = λ t i l u. s.links_clean t i (omega (arith, more_links m t)) u;
        once = λ x. omega (arith, s.once x, more_pages x, more_links m x);
      }

  -- ---- one root more, in a page that was free and is now zero

  module _ (ok : Ok F) (m : List ℕ) (s : Sound F rs m) (lr : lent F root ≡ true) (free : times root (pages_of F rs) + times root (links F m rs) ≡ 0) where
    abbrev m' : List ℕ
    m' = zero_from F root lr F.layout.words 0 m

    -- words of other lent pages are as they were
    words_kept : (x i : ℕ) → lent F x ≡ true → x ≢ root → i < F.layout.words → word_at F m' x i ≡ word_at F m x i
    words_kept x i lx ne u = zero_other_page F root lr F.layout.words 0 m x i (omega arith) ne lx u

    not_root : (x : ℕ) → 0 < times x (pages_of F rs) + times x (links F m rs) → x ≢ root
    not_root x l e = omega (arith, free, ap (λ (k : ℕ). times k (pages_of F rs) + times k (links F m rs)) e)

    l2_kept : (r b : ℕ) → 0 < times r rs → b < blocks F → l2_word F m' r b ≡ l2_word F m r b
    unfolding l2_word
    l2_kept r b l u =
        words_kept (entry_page F r b) (entry_place F b) (root_lent F ok rs m s r b l u)
        (not_root (entry_page F r b) (omega (arith, page_of_lem F ok rs r b l u))) (place_lt F ok b u)

    entries_kept : SameEntries F rs m m'
    entries_kept r b l u = entry_word F m m' r b (l2_kept r b l u)

    -- the new root's entries are all of the 1G type of none
    zero_flat : decode F.layout 0 ≡ flat 0
    unfolding encode
    zero_flat =
        subst (λ (w : ℕ). decode F.layout w ≡ flat 0) (zero-mul (2 ^ F.layout.info_bits)) (decode_flat F.layout ok.lawful 0 (omega arith))

    pub new_entry : (b : ℕ) → b < blocks F → entry_at F m' root b ≡ flat 0
    unfolding entry_page entry_place l2_word
    new_entry b u =
        entry_lent F m' root b lr
        ∙ ap (decode F.layout) (zero_here F root lr F.layout.words 0 m b s.size (omega arith) (omega arith) (omega (arith, blocks_words F ok)))
        ∙ zero_flat

    new_links : (x : ℕ) → times x (links_in F m' root) ≡ 0
    unfolding link_of
    new_links x =
        links_in_measure F (times x) (times_measure x) m' root
        ∙ sum_cong (λ b. times x (link_of (entry_at F m' root b))) (λ b. 0) (blocks F) 0
        (λ b lo hi. ap (λ (e : Entry). times x (link_of e)) (new_entry b (omega arith)) ∙ times_none x)
        ∙ sum_const 0 (blocks F) 0 ∙ mul-zero (blocks F)

    links_kept : (x : ℕ) → times x (links F m' rs') ≡ times x (links F m rs)
    links_kept x = omega (arith, more_links m' x, new_links x, same_times F rs m m' entries_kept x)

    own_page : (x : ℕ) → times x (root_pages F root) ≡ times x (root ∷ [])
    unfolding root_pages
    own_page x = refl

    flat_passes : (p : ℕ) → passes (flat p) ≡ true
    unfolding passes
    flat_passes p = refl

    pub more_sound : Sound F rs' m'
    more_sound =
        record {
          size = zero_length F root lr F.layout.words 0 m ∙ s.size;
          roots_lent = λ x l.
              split (ltb 0 (times x (pages_of F rs)))
              (λ z. s.roots_lent x (ltb-true 0 (times x (pages_of F rs)) z))
              (λ z. subst (λ (y : ℕ). lent F y ≡ true)
              (sym (times_single x root (omega (arith, l, more_pages x, own_page x, ltb-false 0 (times x (pages_of F rs)) z)))) lr);
          pass = λ r b l u. passed r b u (old_or_new r l);
          links_lent = λ t l. s.links_lent t (omega (arith, links_kept t));
          links_clean = λ t i l u.
              let k : 0 < times t (links F m rs) = omega (arith, links_kept t) in
              rw (words_kept t i (s.links_lent t k) (not_root t (omega arith)) u) (s.links_clean t i k u);
          once = λ x.
              split (eqb x root)
              (λ z. let same : x ≡ root = eqb-true x root z in
              omega (
                arith,
                more_pages x,
                own_page x,
                links_kept x,
                ap (λ (y : ℕ). times y (pages_of F rs) + times y (links F m rs)) same ∙ free,
                ap (λ (y : ℕ). times x (y ∷ [])) (sym same) ∙ times_one x,
              ))
              (λ z. omega (arith, s.once x, more_pages x, own_page x, links_kept x, times_other x root (eqb-false x root z)));
        }
      where
        passed : (r b : ℕ) → b < blocks F → (0 < times r rs) ⊎ (r ≡ root) → passes (entry_at F m' r b) ≡ true
        passed r b u (inl l) = rw (entries_kept r b l u) (s.pass r b l u)
        passed r b u (inr e) = subst (λ (k : ℕ). passes (entry_at F m' k b) ≡ true) (sym e) (rw (new_entry b u) (flat_passes 0))

    -- ---- what is read

    pub more_walks : (r n : ℕ) → 0 < times r rs → walk F m' r n ≡ walk F m r n
    more_walks r n l =
        split (ltb n (space F))
        (λ z. let u : n < space F = ltb-true n (space F) z in
        walk_same F m m' r n u (entries_kept r (pn2 n) l (pn2_lt F ok n u))
        (λ t e. let k : 0 < times t (links F m rs) = link_in F rs m r (pn2 n) t l (pn2_lt F ok n u) e in
        words_kept t (pn1 F.layout n) (s.links_lent t k) (not_root t (omega arith)) (pn1_lt F ok n)))
        (λ z. let u : space F ≤ n = ltb-false n (space F) z in outside_space F m' r n u ∙ sym (outside_space F m r n u))

    pub new_walks : (n : ℕ) → n < space F → walk F m' root n ≡ perm 0
    unfolding found
    new_walks n u = walk_in F m' root n u ∙ ap (λ (e : Entry). found F m' e n) (new_entry (pn2 n) (pn2_lt F ok n u))
