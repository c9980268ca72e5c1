-- The table that stands in the board's bytes, in words: any table can stand there.
use mathlib.Core.Path.{◌≡◌, refl, sym, ap, ◌∙◌}
use mathlib.Core.Bool.{true}
use mathlib.Core.List.{List, [], ◌∷◌, ◌++◌}
use Prim.Native.Nat.{ℕ, zero, suc, ◌+◌, ◌*◌, ◌-◌, ◌%◌, ◌^◌, ◌≤◌, ◌<◌}
use native.Mathlib.Omega.{arith}
use lib.Dec.{eqb}
use lib.ListN.{length, get_or}
use lib.Seq.{ext_get_or}
use borrow.Author.Tests.{eqb-true, eqb-false, eq-eqb, ne_eqb}
use Rattle.model.specs.Numbers.{joined, digit}
use Rattle.model.specs.Layout.{rv64}
use Rattle.model.specs.Bytes.{byte_at}
use Rattle.model.specs.Frame.{page_of}
use Rattle.laws.proofs.Choices.{split}
use Rattle.laws.proofs.Digits.{pack_cong}
use Rattle.laws.proofs.Bytes.{byte_of_word, entry_of_bytes, rv64_even}
use Rattle.isolation.specs.Board.{Page, Board, holds, load_byte, word_of, table_of}
use Rattle.isolation.proofs.Bytes.{singles_at, singles_length, table_length, word_in}
use Rattle.witness.specs.Witness.{F, table_bytes, board_for}

-- ---- a row of pages in front

module _ (g : ℕ → List ℕ) (rest : Board) where
  abbrev row : ℕ → ℕ → List Page
  row n s = joined (λ p. record { number = p; bytes = g p } ∷ []) n s

  byte_row : (n s a : ℕ) → s ≤ page_of a → page_of a < s + n → load_byte (row n s ++ rest) a ≡ get_or (g (page_of a)) (a % 4096) 0
  unfolding joined load_byte
  byte_row zero s a l u = absurd (omega arith)
  byte_row (suc n) s a l u =
      split (eqb s (page_of a))
      (λ z. rw z (ap (λ (p : ℕ). get_or (g p) (a % 4096) 0) (eqb-true s (page_of a) z)))
      (λ z. let ne = eqb-false s (page_of a) z in rw z (byte_row n (suc s) a (omega arith) (omega arith)))

  holds_row : (n s page : ℕ) → s ≤ page → page < s + n → length (g page) ≡ 4096 → holds (row n s ++ rest) page ≡ true
  unfolding joined holds
  holds_row zero s page l u e = absurd (omega arith)
  holds_row (suc n) s page l u e =
      split (eqb s page)
      (λ z. rw z (eq-eqb (length (g s)) 4096 (ap (λ (p : ℕ). length (g p)) (eqb-true s page z) ∙ e)))
      (λ z. let ne = eqb-false s page z in rw z (holds_row n (suc s) page (omega arith) (omega arith) e))

  -- below it
  holds_rest : (n s page : ℕ) → page < s → holds (row n s ++ rest) page ≡ holds rest page
  unfolding joined holds
  holds_rest zero s page l = refl
  holds_rest (suc n) s page l = rw (ne_eqb s page (λ z. omega (arith, z))) (holds_rest n (suc s) page (omega arith))

  byte_rest : (n s a : ℕ) → page_of a < s → load_byte (row n s ++ rest) a ≡ load_byte rest a
  unfolding joined load_byte
  byte_rest zero s a l = refl
  byte_rest (suc n) s a l = rw (ne_eqb s (page_of a) (λ z. omega (arith, z))) (byte_rest n (suc s) a (omega arith))

  row_length : (n s : ℕ) → length (row n s ++ rest) ≡ n + length rest
  unfolding joined
  row_length zero s = omega arith
  row_length (suc n) s = omega (arith, row_length n (suc s))

module _ (m : List ℕ) (rest : Board) where
  byte_for : (n : ℕ) → n < 16384 → load_byte (board_for m rest) (65536 + n) ≡ byte_at rv64 m n
  unfolding board_for table_bytes page_of
  byte_for n u =
      let a : ℕ = 65536 + n in
      let same : (page_of a - 16) * 4096 + (0 + a % 4096) ≡ n = omega arith in
      byte_row (table_bytes m) rest 4 16 a (omega arith) (omega arith)
      ∙ singles_at (λ o. byte_at rv64 m ((page_of a - 16) * 4096 + o)) 4096 0 (a % 4096) (omega arith)
      ∙ ap (byte_at rv64 m) same

  -- the words that the bytes are of
  pub table_for : length m ≡ 2048 → ((k : ℕ) → get_or m k 0 < 16 ^ 16) → table_of F (board_for m rest) ≡ m
  unfolding word_of
  table_for size low =
      ext_get_or 0 (table_of F (board_for m rest)) m (table_length F (board_for m rest) ∙ sym size)
      (λ k u.
      let v : k < 2048 = omega (arith, u, table_length F (board_for m rest)) in
      word_in F (board_for m rest) k v
      ∙ pack_cong 256 (λ j. load_byte (board_for m rest) (65536 + k * 8 + j)) (digit 256 (get_or m k 0)) 8 0
      (λ j lo hi. let z : 65536 + k * 8 + j ≡ 65536 + (k * 8 + j) = omega arith in
      ap (load_byte (board_for m rest)) z ∙ byte_for (k * 8 + j) (omega arith) ∙ byte_of_word rv64 m k j (omega arith))
      ∙ entry_of_bytes rv64 rv64_even (get_or m k 0) (low k))

  pub lent_held : (page : ℕ) → 16 ≤ page → page < 20 → holds (board_for m rest) page ≡ true
  unfolding board_for table_bytes
  lent_held page l u = holds_row (table_bytes m) rest 4 16 page l u (singles_length (λ o. byte_at rv64 m ((page - 16) * 4096 + o)) 4096 0)

  pub rest_held : (page : ℕ) → page < 16 → holds (board_for m rest) page ≡ holds rest page
  unfolding board_for
  rest_held page l = holds_rest (table_bytes m) rest 4 16 page l

  pub rest_byte : (a : ℕ) → page_of a < 16 → load_byte (board_for m rest) a ≡ load_byte rest a
  unfolding board_for
  rest_byte a l = byte_rest (table_bytes m) rest 4 16 a l

  pub board_length : length (board_for m rest) ≡ 4 + length rest
  unfolding board_for
  board_length = row_length (table_bytes m) rest 4 16
