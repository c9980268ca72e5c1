-- What a frame within its bounds gives: entry numbers, page numbers and their parts.
use mathlib.Core.Path.{◌≡◌, sym, ap, ◌∙◌, subst}
use mathlib.Core.Bool.{true, ◌&&◌}
use mathlib.Core.List.{List}
use mathlib.Core.Logic.{◌⊎◌, inl, inr}
use Prim.Native.Nat.{ℕ, ◌+◌, ◌*◌, ◌-◌, ◌/◌, ◌%◌, ◌^◌, ◌≤◌, ◌<◌}
use native.Mathlib.Nat.{mul_comm, mul_assoc, mul-zero, zero-mul, le_trans, eq-zero-or-pos, mod-lt, div-add-mod', div-div-eq-div-mul, div-lt_iff_lt-mul, mul-le-mul_right, add-mul}
use native.Mathlib.Omega.{arith}
use lib.Arith.{digits_div, digits_mod}
use lib.Pow.{pow-add, pow_pos, pow_mono}
use lib.Dec.{eqb, leb}
use lib.ListN.{length}
use borrow.Author.Tests.{eqb-true, leb-true}
use Rattle.model.specs.Layout.{Layout, piece_pages}
use Rattle.model.specs.Frame.{Frame, blocks, bounds_ok, frame_ok, lent, space}
use Rattle.model.specs.Walk.{piece_of, pn0, pn1, pn2}
use Rattle.laws.proofs.Choices.{and_true}
use Rattle.theory.proofs.Entries.{Lawful}
use Rattle.theory.proofs.Memory.{lent_high}

pub record Ok (F : Frame) : Type 0 where
  pub lawful : Lawful F.layout
  pub paw_low : 30 ≤ F.paw
  pub paw_high : F.paw ≤ F.layout.max_paw
  pub inside : F.first + F.pages ≤ space F

-- the frame's test says so, and the memory's length
pub frame_ok_lem : (F : Frame) (m : List ℕ) → Lawful F.layout → frame_ok F m ≡ true → Ok F × (length m ≡ F.pages * F.layout.words)
unfolding frame_ok bounds_ok
frame_ok_lem F m lawful h =
    let a = and_true (leb 30 F.paw && leb F.paw F.layout.max_paw && leb 2 F.pages && leb F.pages F.layout.max_pages && leb 1 F.first && leb (F.first + F.pages) (space F)) (eqb (length m) (F.pages * F.layout.words)) h in
    let b = and_true (leb 30 F.paw && leb F.paw F.layout.max_paw && leb 2 F.pages && leb F.pages F.layout.max_pages && leb 1 F.first) (leb (F.first + F.pages) (space F)) a.0 in
    let c = and_true (leb 30 F.paw && leb F.paw F.layout.max_paw && leb 2 F.pages && leb F.pages F.layout.max_pages) (leb 1 F.first) b.0 in
    let d = and_true (leb 30 F.paw && leb F.paw F.layout.max_paw && leb 2 F.pages) (leb F.pages F.layout.max_pages) c.0 in
    let e = and_true (leb 30 F.paw && leb F.paw F.layout.max_paw) (leb 2 F.pages) d.0 in
    let f = and_true (leb 30 F.paw) (leb F.paw F.layout.max_paw) e.0 in (
      record {
        lawful = lawful;
        paw_low = leb-true 30 F.paw f.0;
        paw_high = leb-true F.paw F.layout.max_paw f.1;
        inside = leb-true (F.first + F.pages) (space F) b.1;
      },
      eqb-true (length m) (F.pages * F.layout.words) a.1,
    )

module _ (F : Frame) (ok : Ok F) where
  abbrev L : Layout
  L = F.layout

  -- no more blocks than the widest address space has
  pub blocks_few : blocks F ≤ 2 ^ (F.layout.max_paw - 25)
  unfolding blocks
  blocks_few = pow_mono (omega (arith, ok.paw_high))

  pub blocks_words : blocks F ≤ F.layout.words
  unfolding blocks
  blocks_words = le_trans (pow_mono (omega (arith, ok.paw_high))) ok.lawful.root_fits

  pub blocks_pos : 0 < blocks F
  unfolding blocks
  blocks_pos = pow_pos (F.paw - 25)

  pub space_blocks : space F ≡ blocks F * 8192
  unfolding blocks space
  space_blocks =
      let e : F.paw - 12 ≡ (F.paw - 25) + 13 = omega (arith, ok.paw_low) in
      ap (λ (k : ℕ). 2 ^ k) e ∙ pow-add 2 (F.paw - 25) 13

  pub lent_ppn : (p : ℕ) → lent F p ≡ true → p < 2 ^ F.layout.info_bits
  unfolding space
  lent_ppn p h =
      let a : 2 ^ (F.paw - 12) ≤ 2 ^ (L.max_paw - 12) = pow_mono (omega (arith, ok.paw_high)) in
      omega (arith, lent_high F p h, ok.inside, a, ok.lawful.ppn_fits)

  pub fields_pos : 0 < F.layout.fields
  fields_pos = pos (eq-zero-or-pos L.fields)
    where
      pos : (L.fields ≡ 0) ⊎ (0 < L.fields) → 0 < L.fields
      pos (inl z) = absurd (omega (arith, sym ok.lawful.page_fields ∙ ap (λ (k : ℕ). L.words * k) z ∙ mul-zero L.words))
      pos (inr h) = h

  pub words_pos : 0 < F.layout.words
  words_pos = pos (eq-zero-or-pos L.words)
    where
      pos : (L.words ≡ 0) ⊎ (0 < L.words) → 0 < L.words
      pos (inl z) = absurd (omega (arith, sym ok.lawful.page_fields ∙ ap (λ (k : ℕ). k * L.fields) z ∙ zero-mul L.fields))
      pos (inr h) = h

  pub piece_pos : 0 < piece_pages F.layout
  piece_pos = pos (eq-zero-or-pos (piece_pages L))
    where
      pos : (piece_pages L ≡ 0) ⊎ (0 < piece_pages L) → 0 < piece_pages L
      pos (inl z) = absurd (omega (arith, sym ok.lawful.pieces_pages ∙ ap (λ (k : ℕ). L.pieces * k) z ∙ mul-zero L.pieces))
      pos (inr h) = h

  -- ---- a page number and its parts

  pub pn2_lt : (n : ℕ) → n < space F → pn2 n < blocks F
  unfolding pn2
  pn2_lt n h = (div-lt_iff_lt-mul {k = 8192} (omega arith)).1 (subst (λ (k : ℕ). n < k) space_blocks h)

  pub pn2_of : (b n : ℕ) → b * 8192 ≤ n → n < b * 8192 + 8192 → pn2 n ≡ b
  unfolding pn2
  pn2_of b n l u = omega arith

  pub pn2_low : (n : ℕ) → pn2 n * 8192 ≤ n
  unfolding pn2
  pn2_low n = omega arith

  pub pn2_high : (n : ℕ) → n < pn2 n * 8192 + 8192
  unfolding pn2
  pn2_high n = omega arith

  pub pn1_lt : (n : ℕ) → pn1 F.layout n < F.layout.words
  unfolding pn1
  pn1_lt n = mod-lt (n / L.fields) words_pos

  pub pn0_lt : (n : ℕ) → pn0 F.layout n < F.layout.fields
  unfolding pn0
  pn0_lt n = mod-lt n fields_pos

  pub page_parts_lem : (n : ℕ) → n ≡ pn2 n * 8192 + pn1 F.layout n * F.layout.fields + pn0 F.layout n
  unfolding pn0 pn1 pn2
  page_parts_lem n =
      let a : n / L.fields / L.words ≡ n / 8192
      = div-div-eq-div-mul n L.fields L.words ∙ ap (λ (k : ℕ). n / k) (mul_comm L.fields L.words ∙ ok.lawful.page_fields) in
      let b : n / L.fields ≡ n / 8192 * L.words + n / L.fields % L.words
      = sym (div-add-mod' (n / L.fields) L.words) ∙ ap (λ (k : ℕ). k * L.words + n / L.fields % L.words) a in
      let c : (n / 8192 * L.words + n / L.fields % L.words) * L.fields ≡ n / 8192 * 8192 + n / L.fields % L.words * L.fields
      = add-mul (n / 8192 * L.words) (n / L.fields % L.words) L.fields
      ∙ ap (λ (k : ℕ). k + n / L.fields % L.words * L.fields) (mul_assoc (n / 8192) L.words L.fields ∙ ap (λ (k : ℕ). n / 8192 * k) ok.lawful.page_fields) in
      sym (div-add-mod' n L.fields) ∙ ap (λ (k : ℕ). k * L.fields + n % L.fields) b ∙ ap (λ (k : ℕ). k + n % L.fields) c

  -- the pages of one L1 entry
  pub pn1_of : (b i n : ℕ) → i < F.layout.words → b * 8192 + i * F.layout.fields ≤ n → n < b * 8192 + i * F.layout.fields + F.layout.fields
      → pn1 F.layout n ≡ i
  unfolding pn1
  pn1_of b i n h l u =
      let a : b * 8192 ≡ b * L.words * L.fields = ap (λ (k : ℕ). b * k) (sym ok.lawful.page_fields) ∙ sym (mul_assoc b L.words L.fields) in
      let c : b * 8192 + i * L.fields ≡ (b * L.words + i) * L.fields
      = ap (λ (k : ℕ). k + i * L.fields) a ∙ sym (add-mul (b * L.words) i L.fields) in
      let d : n ≡ (b * L.words + i) * L.fields + (n - (b * 8192 + i * L.fields)) = omega (arith, c) in
      let e : n / L.fields ≡ b * L.words + i
      = ap (λ (k : ℕ). k / L.fields) d ∙ digits_div (b * L.words + i) (omega arith) in
      ap (λ (k : ℕ). k % L.words) e ∙ digits_mod b h

  -- an L1 entry lies in its block
  pub entry_in_block : (i : ℕ) → i < F.layout.words → i * F.layout.fields + F.layout.fields ≤ 8192
  entry_in_block i h =
      subst (λ (k : ℕ). i * L.fields + L.fields ≤ k) ok.lawful.page_fields
      (omega (arith, mul-le-mul_right L.fields h))

  -- the pages of one piece
  pub piece_of_lem : (b i n : ℕ) → i < F.layout.pieces → b * 8192 + i * piece_pages F.layout ≤ n → n < b * 8192 + i * piece_pages F.layout + piece_pages F.layout
      → piece_of F.layout n ≡ i
  unfolding piece_of
  piece_of_lem b i n h l u =
      let in_block : i * piece_pages L + piece_pages L ≤ 8192
      = subst (λ (k : ℕ). i * piece_pages L + piece_pages L ≤ k) ok.lawful.pieces_pages (omega (arith, mul-le-mul_right (piece_pages L) h)) in
      let a : n % 8192 ≡ i * piece_pages L + (n - (b * 8192 + i * piece_pages L)) = omega arith in
      ap (λ (k : ℕ). k / piece_pages L) a ∙ digits_div i (omega arith)

  pub piece_low : (n : ℕ) → pn2 n * 8192 + piece_of F.layout n * piece_pages F.layout ≤ n
  unfolding piece_of pn2
  piece_low n = omega (arith, div-add-mod' (n % 8192) (piece_pages L))

  pub piece_high : (n : ℕ) → n < pn2 n * 8192 + piece_of F.layout n * piece_pages F.layout + piece_pages F.layout
  unfolding piece_of pn2
  piece_high n = omega (arith, div-add-mod' (n % 8192) (piece_pages L), mod-lt (n % 8192) piece_pos)

  pub piece_lt : (n : ℕ) → piece_of F.layout n < F.layout.pieces
  unfolding piece_of
  piece_lt n = (div-lt_iff_lt-mul piece_pos).1 (subst (λ (k : ℕ). n % 8192 < k) (sym ok.lawful.pieces_pages) (omega arith))
