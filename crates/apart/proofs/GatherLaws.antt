-- What is gathered of a block with one slot more: one without an L1 page there, or one with.
use Rattle.std.specs.Prelude.{Some, None}
use Rattle.std.proofs.lemmas.Option.{none-some, same_Some}
use mathlib.Core.Path.{◌≡◌, refl, sym, ap, ap₂, ◌∙◌, subst}
use mathlib.Core.Bool.{Bool, true}
use mathlib.Core.List.{List}
use Prim.Native.Nat.{ℕ, ◌+◌, ◌*◌, ◌/◌, ◌%◌, ◌<◌}
use native.Mathlib.Nat.{add-zero}
use native.Mathlib.Omega.{arith}
use lib.Dec.{ltb, lit<}
use lib.ListN.{get_or, set, length-set}
use lib.Seq.{get_or-set_same, get_or-set_other}
use borrow.Author.Tests.{ltb-true, ltb-false}
use Rattle.model.specs.Numbers.{digit}
use Rattle.model.specs.Layout.{Layout, slot_count, block_pages}
use Rattle.model.specs.Entry.{Entry, flat, pieces, table, invalid, Found, perm, clean, field_of}
use Rattle.model.specs.Frame.{index_of, word_at}
use Rattle.model.specs.Walk.{found, pn0, pn1, piece_of}
use Rattle.model.specs.Apart.{Strength, grants_any}
use Rattle.laws.proofs.Choices.{split}
use Rattle.laws.proofs.Sums.{sum, sum_cong, sum_last}
use Rattle.types.specs.declared.Frame.{Frame}
use Rattle.types.specs.declared.Masks.{Masks}
use Rattle.types.specs.declared.Shares.{Shares}
use Rattle.sharing.specs.Masks.{open_bit, reach_bit, one, Counted}
use Rattle.sharing.specs.Crowds.{reach_of, info_by, Gathered, entry_for, entry_opens, entry_reaches, StartBy}
use Rattle.sharing.proofs.Bits.{open_piece, reach_piece, open_field, reach_field}
use Rattle.sharing.proofs.MaskLaws.{open_none, reach_none}
use Rattle.shapes.specs.Rooted.{Good}
use Rattle.shapes.specs.Words.{flat_info}
use Rattle.shapes.proofs.Fields.{const_digit}
use Rattle.table.specs.Board.{board, FIELDS, PIECES, PIECE-PAGES, frame_of}

field_says : (L : Layout) (w i : ℕ) → clean L w ≡ true → field_of L w i ≡ perm (digit 16 w i % 4)
unfolding field_of
field_says L w i h = rw h refl

-- a page of block b, by its parts
module _ (b q : ℕ) (u : q < block_pages) where
  piece_is : piece_of board (b * block_pages + q) ≡ q / PIECE-PAGES
  unfolding piece_of
  piece_is = omega arith

  pn1_is : pn1 board (b * block_pages + q) ≡ q / FIELDS
  unfolding pn1
  pn1_is = omega arith

  pn0_is : pn0 board (b * block_pages + q) ≡ q % FIELDS
  unfolding pn0
  pn0_is = omega arith

-- one slot more, with which the masks of the pieces are these
module _ (f : Frame) (m : List ℕ) (s : Strength) (b : ℕ) (c d : ℕ → ℕ) (before : Shares) (h : Gathered (frame_of f m) m s c d before) (masks : Masks) where
  abbrev With : Entry → Shares → Type 0
  With e r = Gathered (frame_of f m) m s (λ q. c q + entry_opens (frame_of f m) m s e b q) (λ q. d q + entry_reaches (frame_of f m) m s e b q) r

  abbrev More : ℕ → Type 0
  More info = (k n r : ℕ) → Counted before.even k n r → Counted masks k (n + one (open_bit info k)) (r + one (reach_bit s info k))

  -- no L1 page: by info
  even_more : (e : Entry) (info : ℕ) → More info
      → ((q : ℕ) → q < block_pages → entry_opens (frame_of f m) m s e b q ≡ one (open_bit info (2 * (q / PIECE-PAGES))))
      → ((q : ℕ) → q < block_pages → entry_reaches (frame_of f m) m s e b q ≡ one (reach_bit s info (2 * (q / PIECE-PAGES))))
      → With e (record { even = masks; tables = before.tables; count = before.count })
  even_more e info more open' reach =
      record {
        size = h.size;
        few = h.few;
        inside = h.inside;
        opened = λ j. h.opened j + one (open_bit info (2 * j));
        reached = λ j. h.reached j + one (reach_bit s info (2 * j));
        even = λ j u. more (2 * j) _ _ (h.even j u);
        opens = λ q u. omega (arith, h.opens q u, open' q u);
        reaches = λ q u. omega (arith, h.reaches q u, reach q u);
      }

  pub gather_even : (e : Entry) → Good (frame_of f m) m e → StartBy (frame_of f m) m e None → More (info_by board e)
      → With e (record { even = masks; tables = before.tables; count = before.count })
  unfolding found
  gather_even (flat p) low by more =
      let says : (q : ℕ) → q < block_pages → perm p ≡ perm (digit 4 (flat_info board p) (q / PIECE-PAGES)) = λ q u. ap perm (sym (const_digit 3 p PIECES (q / PIECE-PAGES) (lit< tt) low (omega arith))) in
      even_more (flat p) (flat_info board p) more
      (λ q u. ap (λ (x : Found). one (grants_any x)) (says q u) ∙ ap one (open_piece (flat_info board p) (q / PIECE-PAGES)))
      (λ q u. ap (λ (x : Found). one (reach_of s x)) (says q u) ∙ ap one (reach_piece (flat_info board p) (q / PIECE-PAGES) s))
  gather_even (pieces info) low by more =
      even_more (pieces info) info more
      (λ q u. ap (λ (j : ℕ). one (grants_any (perm (digit 4 info j)))) (piece_is b q u) ∙ ap one (open_piece info (q / PIECE-PAGES)))
      (λ q u. ap (λ (j : ℕ). one (reach_of s (perm (digit 4 info j)))) (piece_is b q u) ∙ ap one (reach_piece info (q / PIECE-PAGES) s))
  gather_even (table t) good by more = absurd (none-some _ by.0)
  gather_even invalid good by more = absurd good

  -- an L1 page, whose words begin at start
  module _ (room : before.count < slot_count) (start : ℕ) where
    abbrev tables : List ℕ
    tables = set before.tables before.count start

    old_at : (i : ℕ) → i < before.count → get_or tables i 0 ≡ get_or before.tables i 0
    old_at i u = get_or-set_other before.tables before.count i start 0 (λ z. omega (arith, z))

    new_at : get_or tables before.count 0 ≡ start
    new_at = get_or-set_same before.tables before.count start 0 (omega (arith, h.size))

    -- the L1 pages that there were say what they said, and the new one comes to them
    sum_more : (g : ℕ → ℕ → Bool) (q : ℕ)
        → sum (λ i. one (g (entry_for board m tables i q) (4 * (q % FIELDS)))) (before.count + 1) 0
        ≡ sum (λ i. one (g (entry_for board m before.tables i q) (4 * (q % FIELDS)))) before.count 0 + one (g (entry_for board m tables before.count q) (4 * (q % FIELDS)))
    sum_more g q =
        sum_last (λ i. one (g (entry_for board m tables i q) (4 * (q % FIELDS)))) before.count
        ∙ ap (λ (k : ℕ). k + one (g (entry_for board m tables before.count q) (4 * (q % FIELDS))))
        (sum_cong _ _ before.count 0 (λ k lo hi. ap (λ (x : ℕ). one (g (get_or m (x + q / FIELDS) 0) (4 * (q % FIELDS)))) (old_at k (omega arith))))

    module _ (t : ℕ) (is : start ≡ index_of (frame_of f m) t 0) (good : Good (frame_of f m) m (table t)) where
      place : (q : ℕ) → word_at (frame_of f m) m t (q / FIELDS) ≡ entry_for board m tables before.count q
      unfolding word_at index_of
      place q = ap (λ (x : ℕ). get_or m x 0) (omega (arith, is, new_at))

      -- what the walk finds there
      says : (q : ℕ) → q < block_pages → found (frame_of f m) m (table t) (b * block_pages + q) ≡ perm (digit 16 (entry_for board m tables before.count q) (q % FIELDS) % 4)
      unfolding found
      says q u =
          rw good.0 (ap₂ (λ (i j : ℕ). field_of board (word_at (frame_of f m) m t i) j) (pn1_is b q u) (pn0_is b q u)
          ∙ field_says board (word_at (frame_of f m) m t (q / FIELDS)) (q % FIELDS) (good.1 (q / FIELDS) (omega arith))
          ∙ ap (λ (w : ℕ). perm (digit 16 w (q % FIELDS) % 4)) (place q))

    -- nothing is added to the masks
    same : More 0 → (k n r : ℕ) → Counted before.even k n r → Counted masks k n r
    same more k n r x =
        let o : n + one (open_bit 0 k) ≡ n = ap (λ (y : Bool). n + one y) (open_none k) ∙ add-zero n in
        let p : r + one (reach_bit s 0 k) ≡ r = ap (λ (y : Bool). r + one y) (reach_none s k) ∙ add-zero r in
        subst (λ (y : ℕ). Counted masks k y r) o (subst (Counted masks k (n + one (open_bit 0 k))) p (more k n r x))

    pub gather_table : (e : Entry) → Good (frame_of f m) m e → StartBy (frame_of f m) m e (Some start) → More (info_by board e)
        → With e (record { even = masks; tables = tables; count = before.count + 1 })
    gather_table (flat p) good by more = absurd (none-some _ (sym by))
    gather_table (pieces info) good by more = absurd (none-some _ (sym by))
    gather_table invalid good by more = absurd good
    gather_table (table t) good by more =
        let is = same_Some _ _ by.0 in
        record {
          size = length-set before.tables before.count start ∙ h.size;
          few = omega arith;
          inside = λ i u. split (ltb i before.count)
              (λ z. let l = ltb-true i before.count z in omega (arith, h.inside i l, old_at i l))
              (λ z. let e : i ≡ before.count = omega (arith, ltb-false i before.count z) in omega (arith, is, by.1, ap (λ (x : ℕ). get_or tables x 0) e ∙ new_at));
          opened = h.opened;
          reached = h.reached;
          even = λ j u. same more (2 * j) _ _ (h.even j u);
          opens = λ q u. omega (
            arith,
            h.opens q u,
            sum_more open_bit q,
            ap (λ (x : Found). one (grants_any x)) (says t is good q u) ∙ ap one (open_field (entry_for board m tables before.count q) (q % FIELDS)),
          );
          reaches = λ q u. omega (
            arith,
            h.reaches q u,
            sum_more (reach_bit s) q,
            ap (λ (x : Found). one (reach_of s x)) (says t is good q u) ∙ ap one (reach_field (entry_for board m tables before.count q) (q % FIELDS) s),
          );
        }
