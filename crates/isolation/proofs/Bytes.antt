-- One byte stored: which bytes it changes, and which words of the table.
use Rattle.std.specs.Prelude.{if◌then◌else◌}
use mathlib.Core.Path.{◌≡◌, refl, sym, ap, ◌∙◌, subst}
use mathlib.Core.Bool.{Bool, true, false≢true}
use mathlib.Core.Logic.{◌≢◌}
use mathlib.Core.List.{[], ◌∷◌}
use Prim.Native.Nat.{ℕ, zero, suc, ◌+◌, ◌*◌, ◌-◌, ◌%◌, ◌≤◌, ◌<◌}
use native.Mathlib.Nat.{add-zero, add-mul, mul_assoc, mul-le-mul_right, not-suc-le-zero, le_of_suc-le-suc}
use native.Mathlib.Omega.{arith}
use lib.Arith.{digits_lt}
use lib.Dec.{eqb}
use lib.ListN.{length, get_or, length-set}
use lib.Seq.{get_or-set_same, get_or-set_other}
use borrow.Author.Tests.{eqb-true}
use Rattle.model.specs.Numbers.{digit, joined}
use Rattle.model.specs.Bytes.{byte_at, entry_bytes}
use Rattle.model.specs.Frame.{Frame, page_of, index_of, lent, word_at}
use Rattle.laws.proofs.Choices.{split}
use Rattle.laws.proofs.Bytes.{byte_of_word}
use Rattle.laws.proofs.Digits.{digit_pack, pack_cong}
use Rattle.theory.proofs.Memory.{lent_low, lent_high}
use Rattle.isolation.specs.Board.{Board, holds, load_byte, store_byte, word_of, table_of}

-- ---- bytes

-- two addresses of one page at one offset are one
same_address : (a x p : ℕ) → p ≡ page_of a → p ≡ page_of x → x % 4096 ≡ a % 4096 → x ≡ a
unfolding page_of
same_address a x p e f z = omega arith

pub byte_other : (B : Board) (a v x : ℕ) → x ≢ a → load_byte (store_byte B a v) x ≡ load_byte B x
unfolding load_byte store_byte
byte_other [] a v x ne = refl
byte_other (p ∷ ps) a v x ne =
    split (eqb p.number (page_of a))
    (λ q. rw q (split (eqb p.number (page_of x))
    (λ z. rw z (get_or-set_other p.bytes (a % 4096) (x % 4096) v 0
    (λ e. ne (same_address a x p.number (eqb-true p.number (page_of a) q) (eqb-true p.number (page_of x) z) e))))
    (λ z. rw z refl)))
    (λ q. rw q (ap (λ (k : ℕ). if eqb p.number (page_of x) then get_or p.bytes (x % 4096) 0 else k) (byte_other ps a v x ne)))

pub byte_here : (B : Board) (a v : ℕ) → holds B (page_of a) ≡ true → load_byte (store_byte B a v) a ≡ v
unfolding load_byte store_byte holds
byte_here [] a v h = absurd (false≢true h)
byte_here (p ∷ ps) a v h =
    split (eqb p.number (page_of a))
    (λ q. let full : eqb (length p.bytes) 4096 ≡ true = rw q at h in
    rw (q, q) (get_or-set_same p.bytes (a % 4096) v 0 (omega (arith, eqb-true (length p.bytes) 4096 full))))
    (λ q. let rest : holds ps (page_of a) ≡ true = rw q at h in rw (q, q) (byte_here ps a v rest))

pub holds_put : (B : Board) (a v page : ℕ) → holds (store_byte B a v) page ≡ holds B page
unfolding store_byte holds
holds_put [] a v page = refl
holds_put (p ∷ ps) a v page =
    split (eqb p.number (page_of a))
    (λ q. rw q (ap (λ (n : ℕ). if eqb p.number page then eqb n 4096 else holds ps page) (length-set p.bytes (a % 4096) v)))
    (λ q. rw q (ap (λ (b : Bool). if eqb p.number page then eqb (length p.bytes) 4096 else b) (holds_put ps a v page)))

-- ---- words

pub singles_length : (f : ℕ → ℕ) (n s : ℕ) → length (joined (λ k. f k ∷ []) n s) ≡ n
unfolding joined
singles_length f zero s = refl
singles_length f (suc n) s = ap suc (singles_length f n (suc s))

pub singles_at : (f : ℕ → ℕ) (n s k : ℕ) → k < n → get_or (joined (λ j. f j ∷ []) n s) k 0 ≡ f (s + k)
unfolding joined
singles_at f zero s k h = absurd (not-suc-le-zero h)
singles_at f (suc n) s zero h = ap f (sym (add-zero s))
singles_at f (suc n) s (suc k) h = let e : suc s + k ≡ s + suc k = omega arith in singles_at f n (suc s) k (le_of_suc-le-suc h) ∙ ap f e

module _ (F : Frame) where
  pub table_length : (B : Board) → length (table_of F B) ≡ F.pages * F.layout.words
  unfolding table_of
  table_length B = singles_length (word_of F B) (F.pages * F.layout.words) 0

  pub word_in : (B : Board) (k : ℕ) → k < F.pages * F.layout.words → get_or (table_of F B) k 0 ≡ word_of F B k
  unfolding table_of
  word_in B k u = let z : 0 + k ≡ k = omega arith in singles_at (word_of F B) (F.pages * F.layout.words) 0 k u ∙ ap (word_of F B) z

  word_at_lem : (B : Board) (p i : ℕ) → lent F p ≡ true → i < F.layout.words → word_at F (table_of F B) p i ≡ word_of F B (index_of F p i)
  unfolding word_at index_of
  word_at_lem B p i l h = word_in B (index_of F p i) (digits_lt (omega (arith, lent_low F p l, lent_high F p l)) h)

  -- the lent memory by bytes, as document 01 counts them, is the board memory from the first lent page on
  pub table_byte : (B : Board) → ((x : ℕ) → load_byte B x < 256) → (k j : ℕ) → k < F.pages * F.layout.words → j < entry_bytes F.layout
      → byte_at F.layout (table_of F B) (k * entry_bytes F.layout + j) ≡ load_byte B (F.first * 4096 + k * entry_bytes F.layout + j)
  unfolding word_of
  table_byte B small k j u h =
      let z : 0 + j ≡ j = omega arith in
      let here : ℕ → ℕ = λ i. load_byte B (F.first * 4096 + k * entry_bytes F.layout + i) in
      byte_of_word F.layout (table_of F B) k j h
      ∙ ap (λ (w : ℕ). digit 256 w j) (word_in B k u)
      ∙ digit_pack 256 here (λ i. small _) (entry_bytes F.layout) 0 j h
      ∙ ap here z

  -- the bytes of an entry lie in its page
  byte_page : F.layout.words * entry_bytes F.layout ≡ 4096 → (p i j : ℕ) → lent F p ≡ true → i < F.layout.words → j < entry_bytes F.layout
      → page_of (F.first * 4096 + index_of F p i * entry_bytes F.layout + j) ≡ p
  unfolding page_of index_of
  byte_page whole p i j lp h l =
      let e : ℕ = entry_bytes F.layout in
      let a : ((p - F.first) * F.layout.words + i) * e ≡ (p - F.first) * 4096 + i * e
      = add-mul ((p - F.first) * F.layout.words) i e ∙ ap (λ (k : ℕ). k + i * e) (mul_assoc (p - F.first) F.layout.words e ∙ ap (λ (k : ℕ). (p - F.first) * k) whole) in
      let b : suc i * e ≤ 4096 = subst (λ (k : ℕ). suc i * e ≤ k) whole (mul-le-mul_right e h) in
      let c : suc i * e ≡ i * e + e = omega arith in
      let low : F.first ≤ p = lent_low F p lp in
      rw a (omega (arith, b, c, low))

  -- a byte of another page is stored
  pub word_put : F.layout.words * entry_bytes F.layout ≡ 4096 → (B : Board) (a v p i : ℕ) → lent F p ≡ true → i < F.layout.words → page_of a ≢ p
      → word_at F (table_of F (store_byte B a v)) p i ≡ word_at F (table_of F B) p i
  unfolding word_of
  word_put whole B a v p i lp h ne =
      word_at_lem (store_byte B a v) p i lp h
      ∙ pack_cong 256 _ _ (entry_bytes F.layout) 0
      (λ j lo hi. byte_other B a v _ (λ z. ne (ap page_of (sym z) ∙ byte_page whole p i j lp h (omega arith))))
      ∙ sym (word_at_lem B p i lp h)
