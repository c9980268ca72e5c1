-- The laws of a layout: what is encoded is decoded, and what the walk finds is one of four permissions.
use mathlib.Core.Path.{◌≡◌, refl, sym, ap, ◌∙◌, subst}
use mathlib.Core.Bool.{Bool, true, ◌&&◌, false≢true}
use Prim.Native.Nat.{ℕ, ◌+◌, ◌*◌, ◌-◌, ◌/◌, ◌%◌, ◌^◌, ◌≤◌, ◌<◌}
use native.Mathlib.Nat.{add-zero, div-div-eq-div-mul, div-eq_of_lt, mod-eq_of_lt, lt_of_lt_of_le, ne_of_gt, one-mul, div-lt_iff_lt-mul}
use native.Mathlib.Omega.{arith}
use lib.Arith.{digits_div, digits_mod}
use lib.Pow.{pow-add, pow_pos}
use lib.Dec.{eqb, leb, ltb}
use borrow.Author.Tests.{eqb-true, eq-eqb, ne_eqb, ltb-true, lt-ltb, le-ltb, leb-true}
use Rattle.model.specs.Layout.{Layout, block_pages, piece_pages, rv32, rv64}
use Rattle.model.specs.Entry.{Entry, decode, encode, flat, info_of, invalid, pieces, table, type_of, zero_of}
use Rattle.laws.proofs.Choices.{and_true, split}
use Rattle.theory.proofs.Used.{passes}

-- what the theory asks of a layout
pub record Lawful (L : Layout) : Type 0 where
  -- a block's L1 page has a field for each of its pages, and its pieces have all its pages
  pub page_fields : L.words * L.fields ≡ 8192
  pub pieces_pages : L.pieces * piece_pages L ≡ 8192
  -- the pieces' TYPE is none of the others, and their permissions fit INFO
  pub type_low : 4 < L.piece_type
  pub type_high : L.piece_type < 8
  pub info_fits : 4 ^ L.pieces ≤ 2 ^ L.info_bits
  -- a root page holds an entry for each block, and INFO holds every page number
  pub root_fits : 2 ^ (L.max_paw - 25) ≤ L.words
  pub ppn_fits : 2 ^ (L.max_paw - 12) ≤ 2 ^ L.info_bits
  -- an entry holds TYPE and INFO
  pub entry_fits : 2 ^ (L.info_bits + 3) ≤ 16 ^ L.fields

-- the laws of a layout are a test of its numbers
unfoldable pub numbers_fit : Layout → Bool
numbers_fit L =
    eqb (L.words * L.fields) block_pages && eqb (L.pieces * piece_pages L) block_pages && ltb 4 L.piece_type && ltb L.piece_type 8
    && leb (4 ^ L.pieces) (2 ^ L.info_bits) && leb (2 ^ (L.max_paw - 25)) L.words && leb (2 ^ (L.max_paw - 12)) (2 ^ L.info_bits)
    && leb (2 ^ (L.info_bits + 3)) (16 ^ L.fields)

pub lawful : (L : Layout) → numbers_fit L ≡ true → Lawful L
unfolding numbers_fit
lawful L h =
    let a = and_true _ _ h in
    let b = and_true _ _ a.0 in
    let c = and_true _ _ b.0 in
    let d = and_true _ _ c.0 in
    let e = and_true _ _ d.0 in
    let f = and_true _ _ e.0 in
    let g = and_true _ _ f.0 in
    record {
      page_fields = eqb-true _ _ g.0;
      pieces_pages = eqb-true _ _ g.1;
      type_low = ltb-true _ _ f.1;
      type_high = ltb-true _ _ e.1;
      info_fits = leb-true _ _ d.1;
      root_fits = leb-true _ _ c.1;
      ppn_fits = leb-true _ _ b.1;
      entry_fits = leb-true _ _ a.1;
    }

pub rv64_lawful : Lawful rv64
unfolding numbers_fit
rv64_lawful = lawful rv64 refl

pub rv32_lawful : Lawful rv32
unfolding numbers_fit
rv32_lawful = lawful rv32 refl

module _ (L : Layout) (ok : Lawful L) where
  -- ---- an entry made of TYPE and INFO

  info_of_lem : (t i : ℕ) → i < 2 ^ L.info_bits → info_of L (t * 2 ^ L.info_bits + i) ≡ i
  unfolding info_of
  info_of_lem t i h = digits_mod t h

  type_of_lem : (t i : ℕ) → t < 8 → i < 2 ^ L.info_bits → type_of L (t * 2 ^ L.info_bits + i) ≡ t
  unfolding type_of
  type_of_lem t i l h = ap (λ (k : ℕ). k % 8) (digits_div t h) ∙ mod-eq_of_lt l

  zero_of_lem : (t i : ℕ) → t < 8 → i < 2 ^ L.info_bits → zero_of L (t * 2 ^ L.info_bits + i) ≡ 0
  unfolding zero_of
  zero_of_lem t i l h =
      ap (λ (k : ℕ). (t * 2 ^ L.info_bits + i) / k) (pow-add 2 L.info_bits 3)
      ∙ sym (div-div-eq-div-mul (t * 2 ^ L.info_bits + i) (2 ^ L.info_bits) 8)
      ∙ ap (λ (k : ℕ). k / 8) (digits_div t h)
      ∙ div-eq_of_lt l

  pub decode_flat : (p : ℕ) → p < 4 → decode L (encode L (flat p)) ≡ flat p
  unfolding decode encode
  decode_flat p h =
      let z : p * 2 ^ L.info_bits ≡ p * 2 ^ L.info_bits + 0 = sym (add-zero _) in
      rw z
      (rw (zero_of_lem p 0 (omega arith) (pow_pos _), type_of_lem p 0 (omega arith) (pow_pos _), info_of_lem p 0 (pow_pos _), lt-ltb p 4 h) refl)

  pub decode_pieces : (i : ℕ) → i < 4 ^ L.pieces → decode L (encode L (pieces i)) ≡ pieces i
  unfolding decode encode
  decode_pieces i h =
      let fits : i < 2 ^ L.info_bits = lt_of_lt_of_le h ok.info_fits in
      rw (
        zero_of_lem L.piece_type i ok.type_high fits,
        type_of_lem L.piece_type i ok.type_high fits,
        info_of_lem L.piece_type i fits,
        le-ltb L.piece_type 4 (omega (arith, ok.type_low)),
        ne_eqb L.piece_type 4 (ne_of_gt ok.type_low),
        eq-eqb L.piece_type L.piece_type refl,
        lt-ltb i (4 ^ L.pieces) h,
      )
      refl

  pub decode_table : (t : ℕ) → t < 2 ^ L.info_bits → decode L (encode L (table t)) ≡ table t
  unfolding decode encode
  decode_table t h = rw (zero_of_lem 4 t (omega arith) h, type_of_lem 4 t (omega arith) h, info_of_lem 4 t h) refl

  -- ---- what decoding yields

  -- an entry's permissions are of four, and those of its pieces are as many as there are pieces
  abbrev pub Small : Entry → Type 0
  Small (flat p) = p < 4
  Small (pieces i) = i < 4 ^ L.pieces
  Small (table t) = Unit {0}
  Small invalid = Unit {0}

  pub decode_small : (e : ℕ) → Small (decode L e)
  unfolding decode
  decode_small e =
      split (eqb (zero_of L e) 0)
      (λ z. rw z
      (split (ltb (type_of L e) 4)
      (λ l. rw l
      (split (eqb (info_of L e) 0) (λ i. rw i (ltb-true (type_of L e) 4 l)) (λ i. rw i tt)))
      (λ l. rw l
      (split (eqb (type_of L e) 4) (λ i. rw i tt)
      (λ i. rw i (split (eqb (type_of L e) L.piece_type)
      (λ j. rw j (split (ltb (info_of L e) (4 ^ L.pieces)) (λ k. rw k (ltb-true (info_of L e) (4 ^ L.pieces) k)) (λ k. rw k tt)))
      (λ j. rw j tt)))))))
      (λ z. rw z tt)

  -- an entry that passes the rules fits its word
  pub decode_fits : (e : ℕ) → passes (decode L e) ≡ true → e < 16 ^ L.fields
  unfolding decode passes zero_of
  decode_fits e h =
      split (eqb (zero_of L e) 0)
      (λ z.
      let zero : e / 2 ^ (L.info_bits + 3) ≡ 0 = eqb-true (zero_of L e) 0 z in
      lt_of_lt_of_le
      (subst (λ (k : ℕ). e < k) (one-mul (2 ^ (L.info_bits + 3))) ((div-lt_iff_lt-mul {k = 2 ^ (L.info_bits + 3)} (pow_pos _)).0 (omega (arith, zero))))
      ok.entry_fits)
      (λ z. absurd (false≢true (rw z at h)))
