-- The L1 page of a block: one word of it stored, and what that leaves of every other word; its entries from two memories.
use Rattle.std.specs.Prelude.{if◌then◌else◌}
use mathlib.Core.Path.{◌≡◌, refl, sym, ap, ap₂, ◌∙◌, subst}
use mathlib.Core.Bool.{true, false}
use mathlib.Core.List.{List, [], ◌∷◌, ◌++◌}
use Prim.Native.Nat.{ℕ, zero, suc, ◌+◌, ◌*◌, ◌-◌, ◌^◌, ◌≤◌, ◌<◌}
use native.Mathlib.Nat.{zero-add, mul-le-mul_right, suc-mul}
use native.Mathlib.Omega.{arith}
use lib.Dec.{eqb, ltb}
use lib.ListN.{length, get_or, length-set}
use lib.Seq.{get_or-set_same}
use borrow.Author.Tests.{eqb-true, eqb-false, eq-eqb, lt-ltb}
use Rattle.laws.proofs.FrameNumbers.{lent_in}
use Rattle.laws.proofs.Choices.{split}
use Rattle.laws.proofs.Digits.{pack_cong, digit_pack}
use Rattle.laws.proofs.Every.{every_all}
use Rattle.laws.proofs.Lists.{joined_append, joined_cong}
use Rattle.model.specs.Entry.{Entry, flat, pieces, table, invalid, Found, clean, encode}
use Rattle.model.specs.Forms.{Request, Form, want_flat, want_pieces, want_table, in_range, perm_of, after_in, l1_word}
use Rattle.model.specs.Frame.{Frame, lent, word_at, index_of}
use Rattle.model.specs.Layout.{block_pages}
use Rattle.model.specs.Numbers.{joined, digit, pack}
use Rattle.model.specs.Stores.{Store, apply, store_at, store_l2, if_changed, if_changed_l2, same_table, new_table, link_table, block_stores}
use Rattle.model.specs.Walk.{pn1, l2_word}
use Rattle.theory.proofs.Along.{apply_none, apply_one}
use Rattle.theory.proofs.Memory.{put, put_other_page, put_other_entry}
use Rattle.theory.proofs.Walks.{found_same}
use Rattle.shapes.specs.Rooted.{Good}
use Rattle.shapes.specs.Pages.{Plain, new_run}
use Rattle.shapes.specs.Rows.{fill_stores}
use Rattle.shapes.proofs.Shape.{Shape, pn1_of}
use Rattle.shapes.proofs.EntryLaws.{after_small, after_16, word_outside}

-- the entry behind it stands at the next word
pub index_next : (F : Frame) (p i : ℕ) → suc (index_of F p i) ≡ index_of F p (suc i)
unfolding index_of
index_next F p i = omega arith

-- ---- one word of a page

-- m' is m with w at entry i of page p
pub record Put (F : Frame) (m m' : List ℕ) (p i w : ℕ) : Type 0 where
  pub size : length m' ≡ length m
  pub here : word_at F m' p i ≡ w
  pub others : (x j : ℕ) → lent F x ≡ true → j < F.layout.words → (x ≡ p → j ≡ i → ⊥) → word_at F m' x j ≡ word_at F m x j

module _ (F : Frame) (m : List ℕ) (long : F.pages * F.layout.words ≤ length m) (p i w : ℕ) (lp : lent F p ≡ true) (h : i < F.layout.words) where
  index_lt : index_of F p i < length m
  unfolding index_of
  index_lt =
      let l = lent_in F p lp in
      let W : ℕ = F.layout.words in
      let d : suc (p - F.first) ≤ F.pages = omega arith in
      omega (arith, suc-mul (p - F.first) W, mul-le-mul_right W d)

  put_set : Put F m (put F m p i w) p i w
  unfolding put word_at
  put_set =
      record {
        size = length-set m (index_of F p i) w;
        here = get_or-set_same m (index_of F p i) w 0 index_lt;
        others = λ x j lx u ne.
            split (eqb x p)
            (λ z. let same : x ≡ p = eqb-true x p z in
            subst (λ (y : ℕ). word_at F (put F m p i w) y j ≡ word_at F m y j) (sym same) (put_other_entry F m p i w j (ne same) lp h u))
            (λ z. put_other_page F m p i w x j (eqb-false x p z) lp lx h u);
      }

  put_one : (m' : List ℕ) → m' ≡ apply (store_at F p i w ∷ []) m → Put F m m' p i w
  put_one m' e = subst (λ (x : List ℕ). Put F m x p i w) (sym (e ∙ apply_one F p i w m)) put_set

  -- stored, or there already
  pub put_changed : (m' : List ℕ) → m' ≡ apply (if_changed F m p i w) m → Put F m m' p i w
  unfolding if_changed
  put_changed m' e =
      split (eqb (word_at F m p i) w)
      (λ z.
      let k : m' ≡ m = (rw z at e) ∙ apply_none m in
      subst (λ (x : List ℕ). Put F m x p i w) (sym k) (record { size = refl; here = eqb-true _ _ z; others = λ x j lx u ne. refl }))
      (λ z. put_one m' (rw z at e))

-- ---- L1 entries once the edit is whole

pub l1_clean : (F : Frame) (sh : Shape F.layout) (m : List ℕ) (q : Request) (low : q.permission < 4) (e : Entry) (g : Good F m e) (b i : ℕ) → clean F.layout (l1_word F m q e b i) ≡ true
unfolding clean l1_word
l1_clean F sh m q low e g b i =
    let N : ℕ = F.layout.fields in
    every_all (λ k. ltb (digit 16 (pack 16 (after_in F m q e) N (b * block_pages + i * N)) k) 4) N 0
    (λ k l. rw (zero-add k, digit_pack 16 (after_in F m q e) (after_16 F sh m q low e g) N (b * block_pages + i * N) k l)
    (lt-ltb _ 4 (after_small F sh m q low e g _)))

-- an entry whose pages lie outside the range does not change
pub entry_stays : (F : Frame) (sh : Shape F.layout) (m : List ℕ) (q : Request) (low : q.permission < 4) (t b : ℕ) → Good F m (table t) → ((j : ℕ) → get_or m j 0 < 16 ^ F.layout.fields)
    → (i : ℕ) → i < F.layout.words → ((k : ℕ) → b * block_pages + i * F.layout.fields ≤ k → k < b * block_pages + i * F.layout.fields + F.layout.fields → in_range q k ≡ false)
    → if_changed F m t i (l1_word F m q (table t) b i) ≡ []
unfolding if_changed word_at
entry_stays F sh m q low t b g fits i h o = rw (eq-eqb _ _ (word_outside F sh m q low (table t) g b i h (fits (index_of F t i)) o))

pub good_plain : (F : Frame) (m m' : List ℕ) (e : Entry) → Plain e → Good F m e → Good F m' e
good_plain F m m' (flat p) pl g = g
good_plain F m m' (pieces i) pl g = g
good_plain F m m' (table t) pl g = absurd pl
good_plain F m m' invalid pl g = g

-- ---- the same from two memories

module _ (F : Frame) (q : Request) (b : ℕ) (m m' : List ℕ) where
  -- an entry without an L1 page says the same in any memory
  pub l1_plain : (e : Entry) (i : ℕ) → Plain e → l1_word F m' q e b i ≡ l1_word F m q e b i
  unfolding l1_word after_in
  l1_plain e i pl =
      pack_cong 16 (after_in F m' q e) (after_in F m q e) F.layout.fields (b * block_pages + i * F.layout.fields)
      (λ k lo hi. ap (λ (y : Found). if in_range q k then q.permission else perm_of y) (found_same F m m' e k (λ t z. absurd (subst Plain z pl))))

  pub run_plain : (e : Entry) → Plain e → (new n i : ℕ) → new_run F m' q e b new n i ≡ new_run F m q e b new n i
  run_plain e pl new n i =
      joined_cong (λ k. store_at F new k (l1_word F m' q e b k) ∷ []) (λ k. store_at F new k (l1_word F m q e b k) ∷ []) n i
      (λ k lo hi. ap (λ (w : ℕ). store_at F new k w ∷ []) (l1_plain e k pl))

  module _ (sh : Shape F.layout) (t i : ℕ) (h : i < F.layout.words) (same : word_at F m' t i ≡ word_at F m t i) where
    pub l1_same : l1_word F m' q (table t) b i ≡ l1_word F m q (table t) b i
    unfolding l1_word after_in
    l1_same =
        pack_cong 16 (after_in F m' q (table t)) (after_in F m q (table t)) F.layout.fields (b * block_pages + i * F.layout.fields)
        (λ k lo hi.
        let x : pn1 F.layout k ≡ i = pn1_of sh b i k h lo hi in
        ap (λ (y : ℕ). if in_range q k then q.permission else y)
        (ap perm_of (found_same F m m' (table t) k (λ u e. let v : t ≡ u = cc in
        subst (λ (y : ℕ). word_at F m' y (pn1 F.layout k) ≡ word_at F m y (pn1 F.layout k)) v
        (ap (λ (j : ℕ). word_at F m' t j) x ∙ same ∙ ap (λ (j : ℕ). word_at F m t j) (sym x))))))

    pub changed_same : if_changed F m' t i (l1_word F m' q (table t) b i) ≡ if_changed F m t i (l1_word F m q (table t) b i)
    unfolding if_changed
    changed_same = ap₂ (λ (x w : ℕ). if eqb x w then [] else store_at F t i w ∷ []) same l1_same

  -- the stores of a block
  module _ (sh : Shape F.layout) (root : ℕ) where
    link_same : (e : Entry) (new : ℕ) → Plain e → link_table F m' q root e b new ≡ link_table F m q root e b new
    unfolding link_table new_table
    link_same e new pl = ap (λ (x : List Store). x ++ (store_l2 F root b (encode F.layout (table new)) ∷ [])) (run_plain e pl new F.layout.words 0)

    pub stores_same : l2_word F m' root b ≡ l2_word F m root b → (fm : Form) (e : Entry) (new : ℕ)
        → ((t i : ℕ) → e ≡ table t → i < F.layout.words → word_at F m' t i ≡ word_at F m t i) → block_stores F m' q root fm e b new ≡ block_stores F m q root fm e b new
    unfolding block_stores if_changed_l2 same_table
    stores_same same (want_flat p) e new h = ap (λ (x : ℕ). if eqb x (encode F.layout (flat p)) then [] else store_l2 F root b (encode F.layout (flat p)) ∷ []) same
    stores_same same (want_pieces p) e new h = ap (λ (x : ℕ). if eqb x (encode F.layout (pieces p)) then [] else store_l2 F root b (encode F.layout (pieces p)) ∷ []) same
    stores_same same want_table (table t) new h =
        joined_cong (λ i. if_changed F m' t i (l1_word F m' q (table t) b i)) (λ i. if_changed F m t i (l1_word F m q (table t) b i)) F.layout.words 0
        (λ i lo hi. changed_same sh t i (omega arith) (h t i refl (omega arith)))
    stores_same same want_table (flat p) new h = link_same (flat p) new tt
    stores_same same want_table (pieces p) new h = link_same (pieces p) new tt
    stores_same same want_table invalid new h = link_same invalid new tt

-- ---- the run of a new page

module _ (F : Frame) (m : List ℕ) (q : Request) (e : Entry) (b new : ℕ) where
  -- in three parts
  pub run_parts : (from to : ℕ) → from ≤ to → to ≤ F.layout.words
      → new_table F m q e b new ≡ new_run F m q e b new (from - 0) 0 ++ (new_run F m q e b new (to - from) from ++ new_run F m q e b new (F.layout.words - to) to)
  unfolding new_table
  run_parts from to h fits =
      let W : ℕ = F.layout.words in
      let g : ℕ → List Store = λ k. store_at F new k (l1_word F m q e b k) ∷ [] in
      let u : W ≡ (from - 0) + ((to - from) + (W - to)) = omega arith in
      let v : 0 + (from - 0) ≡ from = omega arith in
      let w : from + (to - from) ≡ to = omega arith in
      ap (λ (n : ℕ). joined g n 0) u
      ∙ joined_append g (from - 0) ((to - from) + (W - to)) 0
      ∙ ap (λ (l : List Store). joined g (from - 0) 0 ++ l)
      (ap (joined g ((to - from) + (W - to))) v ∙ joined_append g (to - from) (W - to) from ∙ ap (λ (k : ℕ). joined g (to - from) from ++ joined g (W - to) k) w)

  -- of entries that are all one word
  pub fill_run : (w n i : ℕ) → ((k : ℕ) → i ≤ k → k < i + n → w ≡ l1_word F m q e b k) → fill_stores w n (index_of F new i) ≡ new_run F m q e b new n i
  unfolding joined store_at
  fill_run w zero i o = refl
  fill_run w (suc n) i o =
      ap₂ (λ (x y : List Store). x ++ y)
      (ap (λ (x : ℕ). record { at = index_of F new i; word = x } ∷ []) (o i (omega arith) (omega arith)))
      (ap (fill_stores w n) (index_next F new i) ∙ fill_run w n (suc i) (λ k lo hi. o k (omega arith) (omega arith)))
