-- The finished form of a block, from what its pages have in common.
use mathlib.Core.Path.{◌≡◌, refl, sym, ap, ap₂, ◌∙◌, subst}
use mathlib.Core.Bool.{Bool, true, false, ◌&&◌}
use mathlib.Core.List.{List}
use Prim.Native.Nat.{ℕ, zero, suc, ◌+◌, ◌*◌, ◌-◌, ◌^◌, ◌≤◌, ◌<◌}
use native.Mathlib.Nat.{zero-add, add-zero, suc-mul, zero-mul}
use native.Mathlib.Omega.{arith}
use lib.Dec.{eqb}
use lib.ListN.{get_or}
use borrow.Author.Tests.{eq-eqb}
use Rattle.laws.proofs.Digits.{pack_cong, pack_digit}
use Rattle.laws.proofs.Every.{every_step, every_all, every_split}
use Rattle.model.specs.Entry.{Entry, flat, pieces, table}
use Rattle.model.specs.Forms.{Request, in_range, perm_of, after_in, all_are, want_flat, want_pieces, want_table, form_in, pieces_are_one, pieces_info}
use Rattle.model.specs.Frame.{Frame, word_at, index_of}
use Rattle.model.specs.Layout.{block_pages, piece_pages}
use Rattle.model.specs.Numbers.{every, digit, pack}
use Rattle.model.specs.Walk.{found}
use Rattle.shapes.specs.Rooted.{Good}
use Rattle.shapes.specs.Words.{piece_words, spread_of, flat_info}
use Rattle.shapes.proofs.Shape.{Shape, piece_pos, entry_in_piece, piece_in_block, row_pages, row_in, piece_of_lem}
use Rattle.shapes.proofs.Fields.{pack_const}
use Rattle.shapes.proofs.EntryLaws.{all_same, word_is, word_outside}

module _ (F : Frame) (m : List ℕ) (q : Request) (e : Entry) (b : ℕ) where
  -- the permission of a piece's first page, and whether it is all the piece's
  abbrev pub first_of : ℕ → ℕ
  first_of i = after_in F m q e (b * block_pages + i * piece_pages F.layout)

  abbrev pub is_one : ℕ → Bool
  is_one i = all_are F m q e (first_of i) (piece_pages F.layout) (b * block_pages + i * piece_pages F.layout)

  pub form_pieces : every is_one F.layout.pieces 0 ≡ true → want_pieces (pack 4 first_of F.layout.pieces 0) ≡ form_in F m q false 0 e b
  unfolding form_in pieces_are_one pieces_info
  form_pieces h = rw h

  pub form_table : every is_one F.layout.pieces 0 ≡ false → want_table ≡ form_in F m q false 0 e b
  unfolding form_in pieces_are_one pieces_info
  form_table h = rw h

  pub form_flat : (p : ℕ) → want_flat p ≡ form_in F m q true p e b
  unfolding form_in
  form_flat p = refl

  pub form_not : (p : ℕ) → form_in F m q false 0 e b ≡ form_in F m q false p e b
  unfolding form_in
  form_not p = refl

-- ---- a piece of a block's own page, outside the range, by its words

module _ (F : Frame) (sh : Shape F.layout) (m : List ℕ) (q : Request) (low : q.permission < 4) (t : ℕ) (g : Good F m (table t)) where
  abbrev N : ℕ
  N = F.layout.fields

  abbrev R : ℕ
  R = piece_words F.layout

  module _ (b i p : ℕ) (hp : p < 4) (h : i < F.layout.pieces)
      (o : (k : ℕ) → b * block_pages + i * piece_pages F.layout ≤ k → k < b * block_pages + i * piece_pages F.layout + piece_pages F.layout → in_range q k ≡ false)
      (fits : (j : ℕ) → j < piece_words F.layout → get_or m (index_of F t (i * piece_words F.layout) + j) 0 < 16 ^ F.layout.fields) where
    -- the piece's first page and first word
    abbrev S : ℕ
    S = b * block_pages + i * piece_pages F.layout

    abbrev X : ℕ
    X = index_of F t (i * piece_words F.layout)

    abbrev T : ℕ → Bool
    T k = eqb (after_in F m q (table t) k) p

    abbrev W : ℕ → Bool
    W k = eqb (get_or m k 0) (spread_of F.layout p)

    word_here : (j : ℕ) → j < R → W (X + j) ≡ every T N (S + j * N)
    unfolding word_at index_of all_are
    word_here j u =
        let x : (t - F.first) * F.layout.words + i * R + j ≡ (t - F.first) * F.layout.words + (i * R + j) = omega arith in
        let y : b * block_pages + (i * R + j) * N ≡ S + j * N = omega (arith, row_pages sh i j) in
        let v = entry_in_piece sh j u in
        ap (λ (k : ℕ). eqb k (spread_of F.layout p))
        (ap (λ (k : ℕ). get_or m k 0) x
        ∙ word_outside F sh m q low (table t) g b (i * R + j) (row_in sh i j h u) (subst (λ (k : ℕ). get_or m k 0 < 16 ^ N) x (fits j u)) (λ k lo hi. o k (omega arith) (omega arith)))
        ∙ word_is F sh m q low (table t) g b (i * R + j) p hp
        ∙ ap (every T N) y

    words_from : (n j : ℕ) → j + n ≤ R → every W n (X + j) ≡ every T (n * N) (S + j * N)
    unfolding every
    words_from zero j u = ap (λ (n : ℕ). every T n (S + j * N)) (sym (zero-mul N))
    words_from (suc n) j u =
        let x : suc (X + j) ≡ X + suc j = omega arith in
        let y : suc n * N ≡ N + n * N = omega (arith, suc-mul n N) in
        let z : S + j * N + N ≡ S + suc j * N = omega (arith, suc-mul j N) in
        every_step W n (X + j)
        ∙ ap₂ (λ (a c : Bool). a && c) (word_here j (omega arith)) (ap (every W n) x ∙ words_from n (suc j) (omega arith) ∙ ap (every T (n * N)) (sym z))
        ∙ sym (every_split T N (n * N) (S + j * N))
        ∙ ap (λ (k : ℕ). every T k (S + j * N)) (sym y)

    pub piece_words_lem : every W (piece_words F.layout) (index_of F t (i * piece_words F.layout)) ≡ all_are F m q (table t) p (piece_pages F.layout) (b * block_pages + i * piece_pages F.layout)
    unfolding all_are
    piece_words_lem =
        let y : S + 0 * N ≡ S = omega (arith, zero-mul N) in
        ap (every W R) (sym (add-zero X)) ∙ words_from R 0 (omega arith) ∙ ap₂ (λ (n s : ℕ). every T n s) (sym sh.rows) y

-- ---- a block whose pieces are each known

pub info_pack : (n x : ℕ) → x < 4 ^ n → x ≡ pack 4 (digit 4 x) n 0
info_pack n x small =
    sym (pack_digit 4 (omega arith) n x 0 small)
    ∙ pack_cong 4 (λ k. digit 4 x (k - 0)) (digit 4 x) n 0 (λ k l u. let y : k - 0 ≡ k = omega arith in ap (digit 4 x) y)

module _ (F : Frame) (sh : Shape F.layout) (m : List ℕ) (q : Request) (low : q.permission < 4) (e : Entry) (g : Good F m e) (b : ℕ) where
  abbrev PP : ℕ
  PP = piece_pages F.layout

  all_of : (p : ℕ) → flat_info F.layout p ≡ pack 4 (λ i. p) F.layout.pieces 0
  all_of p = sym (pack_const 3 p F.layout.pieces 0 (omega arith))

  pub known_form : (o : ℕ → ℕ) (info : ℕ)
      → ((i k : ℕ) → i < F.layout.pieces → b * block_pages + i * piece_pages F.layout ≤ k → k < b * block_pages + i * piece_pages F.layout + piece_pages F.layout → after_in F m q e k ≡ o i)
      → info ≡ pack 4 o F.layout.pieces 0 → want_pieces info ≡ form_in F m q false 0 e b
  known_form o info h z =
      let first : (i : ℕ) → i < F.layout.pieces → first_of F m q e b i ≡ o i = λ i u. h i (b * block_pages + i * PP) u (omega arith) (omega (arith, piece_pos sh)) in
      ap want_pieces (z ∙ pack_cong 4 o (first_of F m q e b) F.layout.pieces 0 (λ i l u. sym (first i (omega arith))))
      ∙ form_pieces F m q e b
      (every_all (is_one F m q e b) F.layout.pieces 0 (λ i u.
      ap (is_one F m q e b) (zero-add i)
      ∙ sym (all_same F sh m q low e g (first_of F m q e b i) (o i) PP (b * block_pages + i * PP) (piece_pos sh) (λ k lo hi. h i k u lo hi))
      ∙ eq-eqb (o i) (first_of F m q e b i) (sym (first i u))))

  pub form_inside : ((k : ℕ) → b * block_pages ≤ k → k < b * block_pages + block_pages → in_range q k ≡ true) → want_pieces (flat_info F.layout q.permission) ≡ form_in F m q false 0 e b
  unfolding after_in
  form_inside h =
      known_form (λ i. q.permission) (flat_info F.layout q.permission) (λ i k u lo hi. rw (h k (omega arith) (omega (arith, piece_in_block sh i u)))) (all_of q.permission)

  module _ (h : (k : ℕ) → b * block_pages ≤ k → k < b * block_pages + block_pages → in_range q k ≡ false) where
    -- outside the range, by what the entry says of each piece
    pub form_outside : (o : ℕ → ℕ) (info : ℕ)
        → ((i k : ℕ) → i < F.layout.pieces → b * block_pages + i * piece_pages F.layout ≤ k → k < b * block_pages + i * piece_pages F.layout + piece_pages F.layout → perm_of (found F m e k) ≡ o i)
        → info ≡ pack 4 o F.layout.pieces 0 → want_pieces info ≡ form_in F m q false 0 e b
    unfolding after_in
    form_outside o info says = known_form o info (λ i k u lo hi. rw (h k (omega arith) (omega (arith, piece_in_block sh i u))) (says i k u lo hi))

    pub form_flat_out : (p : ℕ) → e ≡ flat p → want_pieces (flat_info F.layout p) ≡ form_in F m q false 0 e b
    unfolding found perm_of
    form_flat_out p z = form_outside (λ i. p) (flat_info F.layout p) (λ i k u lo hi. rw z) (all_of p)

    pub form_pieces_out : (x : ℕ) → e ≡ pieces x → x < 4 ^ F.layout.pieces → want_pieces x ≡ form_in F m q false 0 e b
    unfolding found perm_of
    form_pieces_out x z small =
        form_outside (digit 4 x) x (λ i k u lo hi. rw z (ap (digit 4 x) (piece_of_lem sh b i k u lo hi))) (info_pack F.layout.pieces x small)
