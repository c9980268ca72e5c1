-- What the laws of entries and blocks ask of a layout, and what its numbers then say: entries lie in pieces, pieces in blocks.
use mathlib.Core.Path.{◌≡◌, sym, ap, ◌∙◌, subst}
use Prim.Native.Nat.{ℕ, zero, suc, ◌+◌, ◌*◌, ◌-◌, ◌/◌, ◌%◌, ◌≤◌, ◌<◌}
use native.Mathlib.Nat.{mul_assoc, mul_comm, add-mul, suc-mul, zero-mul, mul-le-mul_right, eq_of_mul-eq-mul_right, div-add-mod', div-div-eq-div-mul, div-lt_iff_lt-mul}
use native.Mathlib.Omega.{arith}
use lib.Arith.{digits_div, digits_lt}
use Rattle.model.specs.Layout.{Layout, block_pages, min_paw, piece_pages}
use Rattle.model.specs.Frame.{Frame, space}
use Rattle.model.specs.Walk.{pn0, pn1, pn2, piece_of}
use Rattle.shapes.specs.Words.{piece_words}
use Rattle.theory.proofs.Entries.{Lawful}
use Rattle.theory.proofs.Frames as frames
use Rattle.theory.proofs.Frames.{Ok}

pub record Shape (L : Layout) : Type 0 where
  pub lawful : Lawful L
  -- a piece has the pages of whole L1 entries
  pub rows : piece_pages L ≡ piece_words L * L.fields
  pub wide : min_paw ≤ L.max_paw

module _ {L : Layout} (sh : Shape L) where
  -- the theory's laws of pages and their parts speak of a frame: one of the layout
  abbrev base : Frame
  base = record { layout = L; paw = min_paw; first = 0; pages = 0 }

  ok : Ok base
  unfolding space
  ok = record { lawful = sh.lawful; paw_low = omega arith; paw_high = sh.wide; inside = omega arith }

  pub fields_pos : 0 < L.fields
  fields_pos = frames.fields_pos base ok

  pub piece_pos : 0 < piece_pages L
  piece_pos = frames.piece_pos base ok

  -- ---- an entry in its block and in its piece, a piece in its block

  pub entry_in_block : (i : ℕ) → i < L.words → i * L.fields + L.fields ≤ block_pages
  entry_in_block = frames.entry_in_block base ok

  pub entry_in_piece : (j : ℕ) → j < piece_words L → j * L.fields + L.fields ≤ piece_pages L
  entry_in_piece j h = omega (arith, sh.rows, mul-le-mul_right L.fields h, suc-mul j L.fields)

  pub piece_in_block : (i : ℕ) → i < L.pieces → i * piece_pages L + piece_pages L ≤ block_pages
  piece_in_block i h = omega (arith, sh.lawful.pieces_pages, mul-le-mul_right (piece_pages L) h, suc-mul i (piece_pages L))

  -- the first page of entry j of piece i
  pub row_pages : (i j : ℕ) → (i * piece_words L + j) * L.fields ≡ i * piece_pages L + j * L.fields
  row_pages i j =
      add-mul (i * piece_words L) j L.fields
      ∙ ap (λ (k : ℕ). k + j * L.fields) (mul_assoc i (piece_words L) L.fields ∙ ap (λ (k : ℕ). i * k) (sym sh.rows))

  -- the pieces have all entries of a page
  pub rows_all : L.pieces * piece_words L ≡ L.words
  rows_all =
      eq_of_mul-eq-mul_right L.fields fields_pos (L.pieces * piece_words L) L.words
      (mul_assoc L.pieces (piece_words L) L.fields ∙ ap (λ (k : ℕ). L.pieces * k) (sym sh.rows) ∙ sh.lawful.pieces_pages ∙ sym sh.lawful.page_fields)

  pub row_in : (i j : ℕ) → i < L.pieces → j < piece_words L → i * piece_words L + j < L.words
  row_in i j h u = subst (λ (k : ℕ). i * piece_words L + j < k) rows_all (digits_lt h u)

  -- piece i of block b, counted from the first block
  pub piece_number : (b i : ℕ) → (b * L.pieces + i) * piece_pages L ≡ b * block_pages + i * piece_pages L
  piece_number b i =
      add-mul (b * L.pieces) i (piece_pages L)
      ∙ ap (λ (k : ℕ). k + i * piece_pages L) (mul_assoc b L.pieces (piece_pages L) ∙ ap (λ (k : ℕ). b * k) sh.lawful.pieces_pages)

  pub pieces_pos : 0 < L.pieces
  pieces_pos = pos L.pieces sh.lawful.pieces_pages
    where
      pos : (n : ℕ) → n * piece_pages L ≡ block_pages → 0 < n
      pos zero z = absurd (omega (arith, z, zero-mul (piece_pages L)))
      pos (suc n) z = omega arith

  -- ---- a page in its entry and in its piece

  pub piece_parts : (n : ℕ) → n ≡ n / block_pages * block_pages + n / piece_pages L % L.pieces * piece_pages L + n % piece_pages L
  piece_parts n =
      let a : n / piece_pages L / L.pieces ≡ n / block_pages
      = div-div-eq-div-mul n (piece_pages L) L.pieces ∙ ap (λ (k : ℕ). n / k) (mul_comm (piece_pages L) L.pieces ∙ sh.lawful.pieces_pages) in
      omega (
        arith,
        div-add-mod' n (piece_pages L),
        ap (λ (k : ℕ). k * piece_pages L) (sym (div-add-mod' (n / piece_pages L) L.pieces) ∙ ap (λ (k : ℕ). k * L.pieces + n / piece_pages L % L.pieces) a),
        piece_number (n / block_pages) (n / piece_pages L % L.pieces),
      )

  -- page k of a block lies in this piece
  pub piece_lt : (k : ℕ) → k < block_pages → k / piece_pages L < L.pieces
  piece_lt k h = (div-lt_iff_lt-mul piece_pos).1 (subst (λ (n : ℕ). k < n) (sym sh.lawful.pieces_pages) h)

  pub page_parts_lem : (n : ℕ) → n ≡ pn2 n * block_pages + pn1 L n * L.fields + pn0 L n
  page_parts_lem = frames.page_parts_lem base ok

  pub pn1_of : (b i n : ℕ) → i < L.words → b * block_pages + i * L.fields ≤ n → n < b * block_pages + i * L.fields + L.fields → pn1 L n ≡ i
  pn1_of = frames.pn1_of base ok

  -- the pages of one L1 entry by their fields
  pub pn0_of : (b i n : ℕ) → i < L.words → b * block_pages + i * L.fields ≤ n → n < b * block_pages + i * L.fields + L.fields → pn0 L n ≡ n - (b * block_pages + i * L.fields)
  unfolding pn2
  pn0_of b i n h lo hi = omega (arith, page_parts_lem n, ap (λ (c : ℕ). c * L.fields) (pn1_of b i n h lo hi), entry_in_block i h)

  pub piece_of_lem : (b i n : ℕ) → i < L.pieces → b * block_pages + i * piece_pages L ≤ n → n < b * block_pages + i * piece_pages L + piece_pages L → piece_of L n ≡ i
  piece_of_lem = frames.piece_of_lem base ok

  -- the pages of one L1 entry lie in one piece
  pub piece_of_entry : (b i n : ℕ) → i < L.words → b * block_pages + i * L.fields ≤ n → n < b * block_pages + i * L.fields + L.fields → piece_of L n ≡ i / piece_words L
  unfolding piece_of
  piece_of_entry b i n h lo hi =
      let in_block = entry_in_block i h in
      let d : n % block_pages ≡ i * L.fields + (n - (b * block_pages + i * L.fields)) = omega arith in
      ap (λ (k : ℕ). n % block_pages / k) (sh.rows ∙ mul_comm (piece_words L) L.fields)
      ∙ sym (div-div-eq-div-mul (n % block_pages) L.fields (piece_words L))
      ∙ ap (λ (k : ℕ). k / piece_words L) (ap (λ (k : ℕ). k / L.fields) d ∙ digits_div i (omega arith))
