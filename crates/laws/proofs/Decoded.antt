-- What an L2 entry says, by the number above its INFO: TYPE, with ZERO above it. Of any layout.
use mathlib.Core.Path.{◌≡◌, refl, sym, ap, ◌∙◌}
use Prim.Native.Nat.{ℕ, ◌/◌, ◌%◌, ◌^◌, ◌≤◌, ◌<◌}
use native.Mathlib.Nat.{div-div-eq-div-mul}
use native.Mathlib.Omega.{arith}
use lib.Dec.{eqb}
use lib.Pow.{pow-add}
use borrow.Author.Tests.{lt-ltb, le-ltb, eq-eqb, ne_eqb, eqb-true}
use Rattle.model.specs.Layout.{Layout}
use Rattle.model.specs.Entry.{flat, pieces, table, invalid, decode, zero_of, type_of, info_of}
use Rattle.laws.proofs.Choices.{split}

module _ (L : Layout) (w : ℕ) where
  abbrev above : ℕ
  above = w / 2 ^ L.info_bits

  abbrev info : ℕ
  info = w % 2 ^ L.info_bits

  zero_is : zero_of L w ≡ above / 8
  unfolding zero_of
  zero_is = ap (λ (k : ℕ). w / k) (pow-add 2 L.info_bits 3) ∙ sym (div-div-eq-div-mul w (2 ^ L.info_bits) 8)

  low : (k : ℕ) → k < 8 → k / 8 ≡ 0
  low k h = omega arith

  same : (k : ℕ) → k < 8 → k % 8 ≡ k
  same k h = omega arith

  is_zero : above < 8 → zero_of L w ≡ 0
  is_zero h = zero_is ∙ low above h

  is_type : above < 8 → type_of L w ≡ above
  unfolding type_of
  is_type h = same above h

  pub flat_word_lem : above < 4 → info ≡ 0 → flat above ≡ decode L w
  unfolding decode info_of
  flat_word_lem k i =
      rw (eq-eqb (zero_of L w) 0 (is_zero (omega (arith, k))), is_type (omega (arith, k)), lt-ltb above 4 k, eq-eqb info 0 i) refl

  pub not_flat : above < 4 → (info ≡ 0 → ⊥) → invalid ≡ decode L w
  unfolding decode info_of
  not_flat k i =
      rw (eq-eqb (zero_of L w) 0 (is_zero (omega (arith, k))), is_type (omega (arith, k)), lt-ltb above 4 k, ne_eqb info 0 i) refl

  pub table_word : above ≡ 4 → table info ≡ decode L w
  unfolding decode info_of
  table_word k =
      rw (eq-eqb (zero_of L w) 0 (is_zero (omega (arith, k))), is_type (omega (arith, k)), k) refl

  module _ (high : 4 < L.piece_type) (fits : L.piece_type < 8) where
    pub pieces_word : above ≡ L.piece_type → info < 4 ^ L.pieces → pieces info ≡ decode L w
    unfolding decode info_of
    pieces_word k i =
        rw (
          eq-eqb (zero_of L w) 0 (is_zero (omega (arith, k, fits))),
          is_type (omega (arith, k, fits)),
          le-ltb above 4 (omega (arith, k, high)),
          ne_eqb above 4 (λ e. omega (arith, e, k, high)),
          eq-eqb above L.piece_type k,
          lt-ltb info (4 ^ L.pieces) i,
        ) refl

    pub not_pieces : above ≡ L.piece_type → 4 ^ L.pieces ≤ info → invalid ≡ decode L w
    unfolding decode info_of
    not_pieces k i =
        rw (
          eq-eqb (zero_of L w) 0 (is_zero (omega (arith, k, fits))),
          is_type (omega (arith, k, fits)),
          le-ltb above 4 (omega (arith, k, high)),
          ne_eqb above 4 (λ e. omega (arith, e, k, high)),
          eq-eqb above L.piece_type k,
          le-ltb info (4 ^ L.pieces) i,
        ) refl

  within : (k : ℕ) → k / 8 ≡ 0 → k < 8
  within k h = omega arith

  pub no_type : 4 < above → (above ≡ L.piece_type → ⊥) → invalid ≡ decode L w
  unfolding decode
  no_type k other =
      split (eqb (zero_of L w) 0)
      (λ z. let fits : above < 8 = within above (sym zero_is ∙ eqb-true (zero_of L w) 0 z) in
      rw (z, is_type fits, le-ltb above 4 (omega (arith, k)), ne_eqb above 4 (λ e. omega (arith, e, k)), ne_eqb above L.piece_type other) refl)
      (λ z. rw z refl)
