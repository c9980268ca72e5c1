-- The words of an L1 page, before the edit and after it, by runs of pages: inside the range, outside, and across an end.
use Rattle.std.specs.Prelude.{if◌then◌else◌}
use mathlib.Core.Path.{◌≡◌, sym, ap, ◌∙◌}
use mathlib.Core.Bool.{Bool, true, false, ◌&&◌}
use mathlib.Core.List.{List}
use Prim.Native.Nat.{ℕ, ◌+◌, ◌*◌, ◌-◌, ◌/◌, ◌%◌, ◌^◌, ◌≤◌, ◌<◌}
use native.Mathlib.Nat.{add-zero, add_assoc, add-mul, one-mul, zero-mul}
use native.Mathlib.Omega.{arith}
use lib.Dec.{eqb}
use borrow.Author.Tests.{eqb-true, eqb-false, eq-eqb}
use Rattle.laws.proofs.Choices.{split}
use Rattle.laws.proofs.Digits.{pack_cong, digit_lt, digit_pack, digit_zero, pack_digit}
use Rattle.laws.proofs.Every.{every_all, every_constant, every_in, every_split}
use Rattle.model.specs.Entry.{Entry, flat, pieces, table, invalid}
use Rattle.model.specs.Forms.{Request, in_range, perm_of, after_in, all_are, l1_word}
use Rattle.model.specs.Frame.{Frame, word_at}
use Rattle.model.specs.Layout.{block_pages, piece_pages}
use Rattle.model.specs.Numbers.{every, digit, pack}
use Rattle.model.specs.Walk.{found}
use Rattle.shapes.specs.Rooted.{Good}
use Rattle.shapes.specs.Words.{piece_words, spread_of, old_word, mixed_at}
use Rattle.shapes.proofs.Shape.{Shape, fields_pos, entry_in_piece, piece_in_block, pn0_of, pn1_of, piece_of_entry}
use Rattle.laws.proofs.FieldLaws.{field_small}
use Rattle.shapes.proofs.Fields.{field_perm, old, pack_const}

module _ (F : Frame) (sh : Shape F.layout) (m : List ℕ) where
  abbrev N : ℕ
  N = F.layout.fields

  abbrev PP : ℕ
  PP = piece_pages F.layout

  -- the first page of L1 entry i of block b
  abbrev at : ℕ → ℕ → ℕ
  at b i = b * block_pages + i * N

  all_of : (p s : ℕ) → pack 16 (λ k. p) N s ≡ spread_of F.layout p
  all_of p s = pack_const 15 p N s (omega arith)

  pub old_small : (e : Entry) (n : ℕ) → Good F m e → old F m e n < 4
  unfolding found perm_of
  old_small (flat p) n g = g
  old_small (pieces i) n g = digit_lt 4 i _ (omega arith)
  old_small (table t) n g = rw g.0 (field_small _ _ _)
  old_small invalid n g = omega arith

  -- the entry as it stands is its fields' permissions
  pub old_pack : (e : Entry) (b i : ℕ) → Good F m e → i < F.layout.words → old_word F m e i < 16 ^ F.layout.fields
      → old_word F m e i ≡ pack 16 (old F m e) F.layout.fields (b * block_pages + i * F.layout.fields)
  unfolding found perm_of
  old_pack (flat p) b i g h small = sym (all_of p (at b i))
  old_pack (pieces x) b i g h small =
      sym (all_of (digit 4 x (i / piece_words F.layout)) (at b i))
      ∙ pack_cong 16 (λ k. digit 4 x (i / piece_words F.layout)) (old F m (pieces x)) N (at b i) (λ k lo hi. ap (digit 4 x) (sym (piece_of_entry sh b i k h lo hi)))
  old_pack (table t) b i g h small =
      sym (pack_digit 16 (omega arith) N (word_at F m t i) (at b i) small)
      ∙ pack_cong 16 (λ k. digit 16 (word_at F m t i) (k - at b i)) (old F m (table t)) N (at b i)
      (λ k lo hi. rw (g.0, pn1_of sh b i k h lo hi, pn0_of sh b i k h lo hi) (sym (field_perm F.layout (word_at F m t i) (k - at b i) (g.1 i h) (omega arith))))
  old_pack invalid b i g h small = sym (zero-mul _) ∙ sym (all_of 0 (at b i))

  -- ---- and once the edit is whole

  module _ (q : Request) (low : q.permission < 4) (e : Entry) (g : Good F m e) where
    pub after_small : (n : ℕ) → after_in F m q e n < 4
    unfolding after_in
    after_small n = split (in_range q n) (λ z. rw z low) (λ z. rw z (old_small e n g))

    pub after_16 : (n : ℕ) → after_in F m q e n < 16
    after_16 n = omega (arith, after_small n)

    pub word_inside : (b i : ℕ) → ((k : ℕ) → b * block_pages + i * F.layout.fields ≤ k → k < b * block_pages + i * F.layout.fields + F.layout.fields → in_range q k ≡ true)
        → spread_of F.layout q.permission ≡ l1_word F m q e b i
    unfolding l1_word after_in
    word_inside b i h = sym (all_of q.permission (at b i)) ∙ pack_cong 16 (λ k. q.permission) (after_in F m q e) N (at b i) (λ k lo hi. rw (h k lo hi))

    module _ (b i : ℕ) (h : i < F.layout.words) (small : old_word F m e i < 16 ^ F.layout.fields) where
      pub word_outside : ((k : ℕ) → b * block_pages + i * F.layout.fields ≤ k → k < b * block_pages + i * F.layout.fields + F.layout.fields → in_range q k ≡ false)
          → old_word F m e i ≡ l1_word F m q e b i
      unfolding l1_word after_in
      word_outside o = old_pack e b i g h small ∙ pack_cong 16 (old F m e) (after_in F m q e) N (at b i) (λ k lo hi. rw (o k lo hi))

      pub word_across : pack 16 (mixed_at q (old_word F m e i) (b * block_pages + i * F.layout.fields)) F.layout.fields (b * block_pages + i * F.layout.fields) ≡ l1_word F m q e b i
      unfolding l1_word after_in
      word_across =
          pack_cong 16 (mixed_at q (old_word F m e i) (at b i)) (after_in F m q e) N (at b i)
          (λ k lo hi.
          let s : ℕ = at b i in
          let z : s + (k - s) ≡ k = omega arith in
          ap (λ (x : ℕ). if in_range q k then q.permission else x)
          (ap (λ (w : ℕ). digit 16 w (k - s)) (old_pack e b i g h small)
          ∙ digit_pack 16 (old F m e) (λ n. omega (arith, old_small e n g)) N s (k - s) (omega arith)
          ∙ ap (old F m e) z))

    -- the first field of an L1 entry
    pub first_field : (b i : ℕ) → l1_word F m q e b i % 16 ≡ after_in F m q e (b * block_pages + i * F.layout.fields)
    unfolding l1_word
    first_field b i = sym (digit_zero 16 _) ∙ digit_pack 16 (after_in F m q e) after_16 N (at b i) 0 (fields_pos sh) ∙ ap (after_in F m q e) (add-zero (at b i))

    -- ---- runs of one permission

    -- an L1 entry says whether its pages are all of one permission
    pub word_is : (b i p : ℕ) → p < 4 → eqb (l1_word F m q e b i) (spread_of F.layout p) ≡ all_are F m q e p F.layout.fields (b * block_pages + i * F.layout.fields)
    unfolding l1_word all_are
    word_is b i p h =
        let s : ℕ = at b i in
        let test : ℕ → Bool = λ k. eqb (after_in F m q e k) p in
        split (eqb (pack 16 (after_in F m q e) N s) (spread_of F.layout p))
        (λ z. z ∙ sym (every_all test N s (λ k l.
        eq-eqb (after_in F m q e (s + k)) p
        (sym (digit_pack 16 (after_in F m q e) after_16 N s k l)
        ∙ ap (λ (w : ℕ). digit 16 w k) (eqb-true _ _ z ∙ sym (all_of p s))
        ∙ digit_pack 16 (λ n. p) (λ n. omega arith) N s k l))))
        (λ z. split (every test N s)
        (λ y. absurd (eqb-false _ _ z (pack_cong 16 (after_in F m q e) (λ n. p) N s (λ k lo hi. eqb-true _ _ (every_in test N s y k lo hi)) ∙ all_of p s)))
        (λ y. z ∙ sym y))

    -- n pages by parts of a pages each, from part j on, which starts at s: the next part decides, or the rest does
    module _ (p a n j s t : ℕ) (h : j * a + a ≤ n) (next : t ≡ s + a) where
      part_split : all_are F m q e p (n - j * a) s ≡ (all_are F m q e p a s && all_are F m q e p (n - (j + 1) * a) t)
      unfolding all_are
      part_split =
          let test : ℕ → Bool = λ k. eqb (after_in F m q e k) p in
          let x : n - j * a ≡ a + (n - (j + 1) * a) = omega (arith, add-mul j 1 a, one-mul a) in
          ap (λ (k : ℕ). every test k s) x
          ∙ every_split test a (n - (j + 1) * a) s
          ∙ ap (λ (k : ℕ). every test a s && every test (n - (j + 1) * a) k) (sym next)

      part_next : all_are F m q e p a s ≡ true → all_are F m q e p (n - j * a) s ≡ all_are F m q e p (n - (j + 1) * a) t
      part_next z = part_split ∙ rw z

      part_stop : all_are F m q e p a s ≡ false → all_are F m q e p (n - j * a) s ≡ false
      part_stop z = part_split ∙ rw z

    -- the entries of a piece, of which the first is entry i
    entry_after : (b i j : ℕ) → b * block_pages + (i + (j + 1)) * N ≡ b * block_pages + (i + j) * N + N
    entry_after b i j = omega (arith, sym (add_assoc i j 1), add-mul (i + j) 1 N, one-mul N)

    pub words_next : (b i j p : ℕ) → j < piece_words F.layout → all_are F m q e p F.layout.fields (b * block_pages + (i + j) * F.layout.fields) ≡ true
        → all_are F m q e p (piece_pages F.layout - j * F.layout.fields) (b * block_pages + (i + j) * F.layout.fields)
        ≡ all_are F m q e p (piece_pages F.layout - (j + 1) * F.layout.fields) (b * block_pages + (i + (j + 1)) * F.layout.fields)
    words_next b i j p h = part_next p N PP j (at b (i + j)) (at b (i + (j + 1))) (entry_in_piece sh j h) (entry_after b i j)

    pub words_stop : (b i j p : ℕ) → j < piece_words F.layout → all_are F m q e p F.layout.fields (b * block_pages + (i + j) * F.layout.fields) ≡ false
        → all_are F m q e p (piece_pages F.layout - j * F.layout.fields) (b * block_pages + (i + j) * F.layout.fields) ≡ false
    words_stop b i j p h = part_stop p N PP j (at b (i + j)) (at b (i + (j + 1))) (entry_in_piece sh j h) (entry_after b i j)

    -- the pieces of a block
    piece_after : (b i : ℕ) → b * block_pages + (i + 1) * PP ≡ b * block_pages + i * PP + PP
    piece_after b i = omega (arith, add-mul i 1 PP, one-mul PP)

    pub pieces_next : (b i p : ℕ) → i < F.layout.pieces → all_are F m q e p (piece_pages F.layout) (b * block_pages + i * piece_pages F.layout) ≡ true
        → all_are F m q e p (block_pages - i * piece_pages F.layout) (b * block_pages + i * piece_pages F.layout)
        ≡ all_are F m q e p (block_pages - (i + 1) * piece_pages F.layout) (b * block_pages + (i + 1) * piece_pages F.layout)
    pieces_next b i p h = part_next p PP block_pages i (b * block_pages + i * PP) (b * block_pages + (i + 1) * PP) (piece_in_block sh i h) (piece_after b i)

    pub pieces_stop : (b i p : ℕ) → i < F.layout.pieces → all_are F m q e p (piece_pages F.layout) (b * block_pages + i * piece_pages F.layout) ≡ false
        → all_are F m q e p (block_pages - i * piece_pages F.layout) (b * block_pages + i * piece_pages F.layout) ≡ false
    pieces_stop b i p h = part_stop p PP block_pages i (b * block_pages + i * PP) (b * block_pages + (i + 1) * PP) (piece_in_block sh i h) (piece_after b i)

    pub all_none : (p n s : ℕ) → n ≡ 0 → all_are F m q e p n s ≡ true
    unfolding all_are every
    all_none p n s z = ap (λ (k : ℕ). every (λ j. eqb (after_in F m q e j) p) k s) z

    -- a run of pages that have one permission after the edit
    pub all_same : (p o n s : ℕ) → 0 < n → ((k : ℕ) → s ≤ k → k < s + n → after_in F m q e k ≡ o) → eqb o p ≡ all_are F m q e p n s
    unfolding all_are
    all_same p o n s pos h = sym (every_constant (λ k. eqb (after_in F m q e k) p) (eqb o p) n s pos (λ k lo hi. ap (λ (x : ℕ). eqb x p) (h k lo hi)))

    pub run_inside : (p n s : ℕ) → 0 < n → ((k : ℕ) → s ≤ k → k < s + n → in_range q k ≡ true) → eqb q.permission p ≡ all_are F m q e p n s
    unfolding after_in
    run_inside p n s pos h = all_same p q.permission n s pos (λ k lo hi. rw (h k lo hi))

    pub run_outside : (p o n s : ℕ) → 0 < n → ((k : ℕ) → s ≤ k → k < s + n → in_range q k ≡ false) → ((k : ℕ) → s ≤ k → k < s + n → old F m e k ≡ o) → eqb o p ≡ all_are F m q e p n s
    unfolding after_in
    run_outside p o n s pos h same = all_same p o n s pos (λ k lo hi. rw (h k lo hi) (same k lo hi))
