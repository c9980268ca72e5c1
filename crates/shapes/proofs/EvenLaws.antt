-- The finished form of a block that is read without an L1 page: of its pieces only those that an end of the range cuts can become mixed.
use mathlib.Core.Path.{◌≡◌, sym, ap, ◌∙◌}
use mathlib.Core.Bool.{Bool, true, false}
use mathlib.Core.List.{List}
use Prim.Native.Nat.{ℕ, ◌+◌, ◌*◌, ◌-◌, ◌/◌, ◌%◌, ◌^◌, ◌≤◌, ◌<◌}
use native.Mathlib.Nat.{zero-add, mod-lt, div-add-mod'}
use native.Mathlib.Omega.{arith}
use lib.Dec.{eqb}
use borrow.Author.Tests.{eqb-true, eqb-false, eq-eqb}
use Rattle.laws.proofs.Choices.{split}
use Rattle.laws.proofs.Digits.{pack_cong}
use Rattle.laws.proofs.Every.{every_all, every_in}
use Rattle.laws.proofs.Splices.{spliced, band_pack}
use Rattle.model.specs.Entry.{Entry, flat, pieces}
use Rattle.model.specs.Forms.{Request, in_range, perm_of, after_in, all_are, want_pieces, want_table, form_in}
use Rattle.model.specs.Frame.{Frame}
use Rattle.model.specs.Layout.{block_pages, piece_pages}
use Rattle.model.specs.Numbers.{every, digit}
use Rattle.model.specs.Walk.{found}
use Rattle.shapes.specs.Rooted.{Good}
use Rattle.shapes.specs.Words.{flat_info}
use Rattle.shapes.specs.Blocks.{Even, Mixes}
use Rattle.types.specs.Range.{Cut}
use Rattle.shapes.proofs.Shape.{Shape, piece_pos, pieces_pos, piece_in_block, piece_number, piece_parts, piece_lt, piece_of_lem}
use Rattle.laws.proofs.InRange.{first_page, past_page, within, under, over, empty_false, end_first, end_past}
use Rattle.shapes.proofs.Fields.{ceil_gt, ceil_le, const_digit, every_fail, pack_const}
use Rattle.shapes.proofs.FormLaws.{first_of, is_one, form_table, known_form, info_pack}

module _ (F : Frame) (sh : Shape F.layout) (m : List ℕ) (q : Request) (low : q.permission < 4) (e : Entry) (g : Good F m e) (b info : ℕ)
    (fits : info < 4 ^ F.layout.pieces) (even : Even F m e b info) where
  abbrev PP : ℕ
  PP = piece_pages F.layout

  -- the first page of piece i
  abbrev at : ℕ → ℕ
  at i = b * block_pages + i * PP

  first_in_lem : (i : ℕ) → at i < at i + PP
  first_in_lem i = omega (arith, piece_pos sh)

  inside : (k : ℕ) → in_range q k ≡ true → after_in F m q e k ≡ q.permission
  unfolding after_in
  inside k z = rw z

  outside : (i k : ℕ) → i < F.layout.pieces → at i ≤ k → k < at i + PP → in_range q k ≡ false → after_in F m q e k ≡ digit 4 info i
  unfolding after_in
  outside i k u lo hi z = rw z (even i k u lo hi)

  pub even_empty : first_page q ≡ past_page q → want_pieces info ≡ form_in F m q false 0 e b
  even_empty z = known_form F sh m q low e g b (digit 4 info) info (λ i k u lo hi. outside i k u lo hi (empty_false q k z)) (info_pack F.layout.pieces info fits)

  -- a piece with a page in the range and one outside, and another permission than the asked one
  even_mixed : (i j k : ℕ) → i < F.layout.pieces → at i ≤ j → j < at i + PP → at i ≤ k → k < at i + PP
      → in_range q j ≡ true → in_range q k ≡ false → (digit 4 info i ≡ q.permission → ⊥) → want_table ≡ form_in F m q false 0 e b
  unfolding all_are
  even_mixed i j k u lj hj lk hk x y differ =
      let test : ℕ → Bool = λ n. eqb (after_in F m q e n) (first_of F m q e b i) in
      form_table F m q e b
      (every_fail (is_one F m q e b) F.layout.pieces i u
      (split (is_one F m q e b i)
      (λ z. absurd (differ
      (sym (outside i k u lk hk y)
      ∙ eqb-true _ _ (every_in test PP (at i) z k lk hk)
      ∙ sym (eqb-true _ _ (every_in test PP (at i) z j lj hj))
      ∙ inside j x)))
      (λ z. z)))

  -- an end that cuts a piece of another permission
  module _ (some : first_page q ≡ past_page q → ⊥) where
    -- page n is within the piece that it cuts, and not its first
    cut_in : (n : ℕ) → Mixes F.layout q b info n true → (at (n / PP % F.layout.pieces) < n) × (n < at (n / PP % F.layout.pieces) + PP)
    cut_in n d = let p = piece_parts sh n in let s = ap (λ (c : ℕ). c * block_pages) d.1 in (omega (arith, d.0), omega (arith, mod-lt n (piece_pos sh)))

    pub mixed_first : Mixes F.layout q b info (first_page q) true → want_table ≡ form_in F m q false 0 e b
    mixed_first d =
        let n : ℕ = first_page q in
        let c = cut_in n d in
        even_mixed (n / PP % F.layout.pieces) n (n - 1) (mod-lt (n / PP) (pieces_pos sh)) (omega arith) (omega arith) (omega arith) (omega arith)
        (within q n (omega arith) (omega arith)) (under q (n - 1) (omega arith)) d.2

    pub mixed_past : Mixes F.layout q b info (past_page q) true → want_table ≡ form_in F m q false 0 e b
    mixed_past d =
        let n : ℕ = past_page q in
        let c = cut_in n d in
        even_mixed (n / PP % F.layout.pieces) (n - 1) n (mod-lt (n / PP) (pieces_pos sh)) (omega arith) (omega arith) (omega arith) (omega arith)
        (within q (n - 1) (omega arith) (omega arith)) (over q n (omega arith)) d.2

  -- the pages of a piece that no end cuts, or that has the asked permission, end alike
  module _ (from : Mixes F.layout q b info (first_page q) false) (to : Mixes F.layout q b info (past_page q) false) where
    even_same : (i k : ℕ) → i < F.layout.pieces → at i ≤ k → k < at i + PP → after_in F m q e k ≡ first_of F m q e b i
    even_same i k u lo hi =
        split (in_range q k)
        (λ x. split (in_range q (at i))
        (λ y. inside k x ∙ sym (inside (at i) y))
        (λ y. let c = end_first q (at i) k y x lo in inside k x ∙ sym (from i u c.0 (omega arith)) ∙ sym (outside i (at i) u (omega arith) (first_in_lem i) y)))
        (λ x. split (in_range q (at i))
        (λ y. let c = end_past q (at i) k y x lo in outside i k u lo hi x ∙ to i u c.0 (omega arith) ∙ sym (inside (at i) y))
        (λ y. outside i k u lo hi x ∙ sym (outside i (at i) u (omega arith) (first_in_lem i) y)))

    pub even_spliced : (lo hi : ℕ) → Cut ((first_page q + (piece_pages F.layout - 1)) / piece_pages F.layout) (b * F.layout.pieces) F.layout.pieces lo
        → Cut ((past_page q + (piece_pages F.layout - 1)) / piece_pages F.layout) (b * F.layout.pieces) F.layout.pieces hi
        → want_pieces (spliced 4 hi (spliced 4 lo info (flat_info F.layout q.permission)) info) ≡ form_in F m q false 0 e b
    even_spliced lo hi cl ch =
        known_form F sh m q low e g b (first_of F m q e b) (spliced 4 hi (spliced 4 lo info (flat_info F.layout q.permission)) info) even_same
        (band_pack 4 (omega arith) F.layout.pieces 0 lo hi info (flat_info F.layout q.permission) (first_of F m q e b) ch.few fits
        (λ i u h. kept i u (under q (at i) (above i (first_page q) (omega arith))))
        (λ i u l h. from_zero i ∙ inside (at i) (within q (at i) (reached i (first_page q) (omega (arith, cl.past (omega arith)))) (above i (past_page q) (omega arith)))
        ∙ sym (const_digit 3 q.permission F.layout.pieces i (omega arith) low u))
        (λ i u h. kept i u (over q (at i) (reached i (past_page q) (omega (arith, ch.past (omega arith)))))))
      where
        -- where a piece lies, from the count of pieces below an end
        above : (i end : ℕ) → b * F.layout.pieces + i < (end + (PP - 1)) / PP → at i < end
        above i end h = omega (arith, ceil_gt end (b * F.layout.pieces + i) (piece_pos sh) h, piece_number sh b i)

        reached : (i end : ℕ) → (end + (PP - 1)) / PP ≤ b * F.layout.pieces + i → end ≤ at i
        reached i end h = omega (arith, ceil_le end (b * F.layout.pieces + i) (piece_pos sh) h, piece_number sh b i)

        from_zero : (i : ℕ) → first_of F m q e b (0 + i) ≡ first_of F m q e b i
        from_zero i = ap (first_of F m q e b) (zero-add i)

        kept : (i : ℕ) → i < F.layout.pieces → in_range q (at i) ≡ false → first_of F m q e b (0 + i) ≡ digit 4 info i
        kept i u z = from_zero i ∙ outside i (at i) u (omega arith) (first_in_lem i) z

  -- outside the range: are all pages of the block of permission p?
  pub even_is : (p : ℕ) → p < 4 → ((k : ℕ) → b * block_pages ≤ k → k < b * block_pages + block_pages → in_range q k ≡ false)
      → eqb info (flat_info F.layout p) ≡ all_are F m q e p block_pages (b * block_pages)
  unfolding all_are
  even_is p hp out =
      let test : ℕ → Bool = λ k. eqb (after_in F m q e k) p in
      split (eqb info (flat_info F.layout p))
      (λ z. z ∙ sym (every_all test block_pages (b * block_pages) (λ k l.
      let parts = div-add-mod' k PP in
      eq-eqb (after_in F m q e (b * block_pages + k)) p
      (outside (k / PP) (b * block_pages + k) (piece_lt sh k l) (omega arith) (omega (arith, mod-lt k (piece_pos sh))) (out (b * block_pages + k) (omega arith) (omega arith))
      ∙ ap (λ (x : ℕ). digit 4 x (k / PP)) (eqb-true _ _ z) ∙ const_digit 3 p F.layout.pieces (k / PP) (omega arith) hp (piece_lt sh k l)))))
      (λ z. split (every test block_pages (b * block_pages))
      (λ y. absurd (eqb-false _ _ z
      (info_pack F.layout.pieces info fits
      ∙ pack_cong 4 (digit 4 info) (λ i. p) F.layout.pieces 0 (λ i l u. one y i (omega arith))
      ∙ pack_const 3 p F.layout.pieces 0 (omega arith))))
      (λ y. z ∙ sym y))
    where
      one : every (λ k. eqb (after_in F m q e k) p) block_pages (b * block_pages) ≡ true → (i : ℕ) → i < F.layout.pieces → digit 4 info i ≡ p
      one y i u =
          let v = piece_in_block sh i u in
          let w = piece_pos sh in
          sym (outside i (at i) u (omega arith) (first_in_lem i) (out (at i) (omega arith) (omega arith)))
          ∙ eqb-true _ _ (every_in (λ k. eqb (after_in F m q e k) p) block_pages (b * block_pages) y (at i) (omega arith) (omega arith))

-- ---- the two entries that have no L1 page

pub even_flat : (F : Frame) (m : List ℕ) (p b : ℕ) → p < 4 → Even F m (flat p) b (flat_info F.layout p)
unfolding found perm_of
even_flat F m p b h = λ i k u lo hi. sym (const_digit 3 p F.layout.pieces i (omega arith) h u)

pub even_pieces : (F : Frame) (sh : Shape F.layout) (m : List ℕ) (x b : ℕ) → Even F m (pieces x) b x
unfolding found perm_of
even_pieces F sh m x b = λ i k u lo hi. ap (digit 4 x) (piece_of_lem sh b i k u lo hi)
