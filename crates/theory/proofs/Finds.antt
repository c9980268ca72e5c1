-- What a walk finds: one of four permissions, and in a sound table always one. The L1 entries that an edit wants.
use mathlib.Core.Path.{◌≡◌, refl, sym, ap, ap₂, ◌∙◌}
use mathlib.Core.Bool.{true, false, false≢true}
use mathlib.Core.List.{List}
use Prim.Native.Nat.{ℕ, ◌+◌, ◌*◌, ◌^◌, ◌<◌}
use native.Mathlib.Nat.{zero-add}
use native.Mathlib.Omega.{arith}
use lib.Dec.{ltb}
use borrow.Author.Tests.{lt-ltb}
use Rattle.model.specs.Numbers.{digit, pack}
use Rattle.model.specs.Entry.{Entry, Found, clean, field_of, flat, invalid, perm, pieces, table}
use Rattle.model.specs.Frame.{Frame, lent, space, word_at}
use Rattle.model.specs.Walk.{entry_at, entry_page, found, l2_word, piece_of, pn0, pn1, pn2, walk}
use Rattle.model.specs.Forms.{Request, after, after_in, in_range, l1_word, perm_of}
use Rattle.laws.proofs.Choices.{split}
use Rattle.laws.proofs.Digits.{digit_lt, digit_pack, pack_cong, pack_lt}
use Rattle.laws.proofs.Every.{every_all}
use Rattle.laws.proofs.FieldLaws.{field_small, field_clean}
use Rattle.laws.proofs.Times.{times}
use Rattle.theory.proofs.Used.{links, passes}
use Rattle.theory.proofs.Entries.{Small, decode_small}
use Rattle.theory.proofs.Frames.{Ok, entry_in_block, page_parts_lem, pn0_lt, pn1_lt, pn2_lt, pn2_of}
use Rattle.theory.proofs.Tables.{Sound, link_in}
use Rattle.theory.proofs.Walks.{walk_in}

module _ (F : Frame) (ok : Ok F) where
  pub entry_small : (m : List ℕ) (r b : ℕ) → Small F.layout ok.lawful (entry_at F m r b)
  unfolding entry_at
  entry_small m r b = split (lent F (entry_page F r b)) (λ q. rw q (decode_small F.layout ok.lawful (l2_word F m r b))) (λ q. rw q tt)

  pub found_small : (m : List ℕ) (e : Entry) (n : ℕ) → Small F.layout ok.lawful e → perm_of (found F m e n) < 4
  unfolding found perm_of
  found_small m (flat p) n h = h
  found_small m (pieces i) n h = digit_lt 4 i (piece_of F.layout n) (omega arith)
  found_small m (table t) n h =
      split (lent F t) (λ q. rw q (field_small F.layout (word_at F m t (pn1 F.layout n)) (pn0 F.layout n))) (λ q. rw q (omega arith))
  found_small m invalid n h = omega arith

  pub after_in_small : (m : List ℕ) (q : Request) (ro b n : ℕ) → q.permission < 4 → after_in F m q (entry_at F m ro b) n < 4
  unfolding after_in
  after_in_small m q ro b n h = split (in_range q n) (λ z. rw z h) (λ z. rw z (found_small m (entry_at F m ro b) n (entry_small m ro b)))

  pub after_small : (m : List ℕ) (q : Request) (ro : ℕ) → q.permission < 4 → (n : ℕ) → after F m q ro n < 4
  unfolding after
  after_small m q ro h n = after_in_small m q ro (pn2 n) n h

  -- ---- a sound table's walks find a permission

  finds_perm : (x : Found) (p : ℕ) → x ≡ perm p → x ≡ perm (perm_of x)
  unfolding perm_of
  finds_perm x p e = e ∙ ap (λ (y : Found). perm (perm_of y)) (sym e)

  pub walk_finds : (rs m : List ℕ) → Sound F rs m → (r n : ℕ) → 0 < times r rs → n < space F → walk F m r n ≡ perm (perm_of (walk F m r n))
  unfolding perm_of found passes
  walk_finds rs m s r n l u =
      let w : walk F m r n ≡ found F m (entry_at F m r (pn2 n)) n = walk_in F m r n u in
      w ∙ finds (entry_at F m r (pn2 n)) refl (s.pass r (pn2 n) l (pn2_lt F ok n u)) ∙ ap (λ (x : Found). perm (perm_of x)) (sym w)
    where
      finds : (e : Entry) → entry_at F m r (pn2 n) ≡ e → passes e ≡ true → found F m e n ≡ perm (perm_of (found F m e n))
      finds (flat p) q h = refl
      finds (pieces i) q h = refl
      finds (table t) q h =
          let linked : 0 < times t (links F m rs) = link_in F rs m r (pn2 n) t l (pn2_lt F ok n u) q in
          rw (s.links_lent t linked)
          (finds_perm _ _ (field_clean F.layout (word_at F m t (pn1 F.layout n)) (pn0 F.layout n) (pn0_lt F ok n) (s.links_clean t (pn1 F.layout n) linked (pn1_lt F ok n))))
      finds invalid q h = absurd (false≢true h)

  -- outside the range the edit leaves what the walk finds
  pub after_outside : (rs m : List ℕ) → Sound F rs m → (q : Request) (ro n : ℕ) → 0 < times ro rs → n < space F → in_range q n ≡ false
      → walk F m ro n ≡ perm (after F m q ro n)
  unfolding after after_in
  after_outside rs m s q ro n l u out = walk_finds rs m s ro n l u ∙ rw out (ap (λ (x : Found). perm (perm_of x)) (walk_in F m ro n u))

  pub after_inside : (m : List ℕ) (q : Request) (ro n : ℕ) → in_range q n ≡ true → after F m q ro n ≡ q.permission
  unfolding after after_in
  after_inside m q ro n inr' = rw inr'

  -- ---- the L1 entries that an edit wants

  -- L1 entry i of block b for the permissions A
  unfoldable pub wanted : (ℕ → ℕ) → ℕ → ℕ → ℕ
  wanted A b i = pack 16 A F.layout.fields (b * 8192 + i * F.layout.fields)

  pub l1_wanted : (m : List ℕ) (q : Request) (ro b i : ℕ) → i < F.layout.words → l1_word F m q (entry_at F m ro b) b i ≡ wanted (after F m q ro) b i
  unfolding l1_word wanted after
  l1_wanted m q ro b i h =
      pack_cong 16 (after_in F m q (entry_at F m ro b)) (after F m q ro) F.layout.fields (b * 8192 + i * F.layout.fields)
      (λ k lo hi. ap (λ (c : ℕ). after_in F m q (entry_at F m ro c) k) (sym (pn2_of F ok b k (omega arith) (omega (arith, entry_in_block F ok i h)))))

  module _ (A : ℕ → ℕ) (small : (n : ℕ) → A n < 4) where
    low : (k : ℕ) → A k < 16
    low k = omega (arith, small k)

    pub wanted_small : (b i : ℕ) → wanted A b i < 16 ^ F.layout.fields
    unfolding wanted
    wanted_small b i = pack_lt 16 A low F.layout.fields (b * 8192 + i * F.layout.fields)

    pub wanted_clean : (b i : ℕ) → clean F.layout (wanted A b i) ≡ true
    unfolding clean wanted
    wanted_clean b i =
        every_all (λ k. ltb (digit 16 (pack 16 A F.layout.fields (b * 8192 + i * F.layout.fields)) k) 4) F.layout.fields 0
        (λ k h. rw (zero-add k, digit_pack 16 A low F.layout.fields (b * 8192 + i * F.layout.fields) k h) (lt-ltb _ 4 (small _)))

    pub wanted_field : (b i n : ℕ) → pn2 n ≡ b → pn1 F.layout n ≡ i → field_of F.layout (wanted A b i) (pn0 F.layout n) ≡ perm (A n)
    unfolding wanted
    wanted_field b i n bb ii =
        let at : b * 8192 + i * F.layout.fields + pn0 F.layout n ≡ n
        = ap₂ (λ (x y : ℕ). x * 8192 + y * F.layout.fields + pn0 F.layout n) (sym bb) (sym ii) ∙ sym (page_parts_lem F ok n) in
        field_clean F.layout (wanted A b i) (pn0 F.layout n) (pn0_lt F ok n) (wanted_clean b i)
        ∙ ap perm (digit_pack 16 A low F.layout.fields (b * 8192 + i * F.layout.fields) (pn0 F.layout n) (pn0_lt F ok n) ∙ ap A at)
