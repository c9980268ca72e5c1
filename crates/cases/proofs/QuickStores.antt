-- The stores of an edit, with the words of L1 pages by runs of pages and read quickly: the same, and quick.
-- The idea: most L1 entries hold 16 pages of one permission, so their word is that permission times 0x1111111111111111.
use Rattle.std.specs.Prelude.{if◌then◌else◌}
use mathlib.Core.Path.{◌≡◌, refl, ap, ap₂, ◌∙◌, fun_ext}
use mathlib.Core.Bool.{true, false}
use mathlib.Core.List.{List, [], ◌∷◌, ◌++◌, tail, head_d}
use Prim.Native.Nat.{ℕ, suc, ◌+◌, ◌*◌, ◌<◌}
use lib.Dec.{eqb, ltb}
use Rattle.model.specs.Numbers.{joined, pack}
use Rattle.model.specs.Layout.{block_pages, piece_pages}
use Rattle.model.specs.Entry.{Entry, flat, pieces, table, invalid, encode}
use Rattle.model.specs.Frame.{Frame}
use Rattle.model.specs.Walk.{entry_at}
use Rattle.model.specs.Forms.{Request, Form, want_flat, want_pieces, want_table, after_in, l1_word}
use Rattle.model.specs.Stores.{Store, needs_page, store_at, store_l2, if_changed, if_changed_l2, same_table, new_table, link_table, block_stores, stores_from}
use Rattle.laws.proofs.Choices.{by_test, and_true}
use Rattle.laws.proofs.Digits.{pack_cong, pack_one}
use Rattle.laws.proofs.Peeks.{peek, word_is_peek}
use Rattle.laws.proofs.PageRuns.{alike, quick_after, after_quick, after_alike}

module _ (F : Frame) (pos : 0 < piece_pages F.layout) (m : List ℕ) (q : Request) where
  -- ---- one L1 entry

  abbrev start : ℕ → ℕ → ℕ
  start b i = b * block_pages + i * F.layout.fields

  unfoldable pub quick_word : Entry → ℕ → ℕ → ℕ
  quick_word e b i =
      elim (alike F pos m q e F.layout.fields (start b i)) [
        | true ↦ quick_after F pos m q e (start b i) * pack 16 (λ k. 1) F.layout.fields 0
        | false ↦ l1_word F m q e b i
      ]

  word_quick : (e : Entry) (b i : ℕ) → l1_word F m q e b i ≡ quick_word e b i
  unfolding quick_word l1_word alike
  word_quick e b i =
      by_test (alike F pos m q e F.layout.fields (start b i))
      (λ h. pack_cong 16 (after_in F m q e) (λ k. quick_after F pos m q e (start b i)) F.layout.fields (start b i)
      (λ k lo hi. after_alike F pos m q e F.layout.fields (start b i) k (and_true (ltb 0 F.layout.fields) _ h).1 lo hi ∙ after_quick F pos m q e (start b i))
      ∙ pack_one 16 (quick_after F pos m q e (start b i)) F.layout.fields (start b i) 0)
      (λ h. refl)

  -- ---- an L1 page

  unfoldable pub quick_same : Entry → ℕ → ℕ → List Store
  quick_same e b t = joined (λ i. if eqb (peek F m t i) (quick_word e b i) then [] else store_at F t i (quick_word e b i) ∷ []) F.layout.words 0

  unfoldable pub quick_new : Entry → ℕ → ℕ → List Store
  quick_new e b new = joined (λ i. store_at F new i (quick_word e b i) ∷ []) F.layout.words 0

  same_quick : (e : Entry) (b t : ℕ) → same_table F m q e b t ≡ quick_same e b t
  unfolding same_table quick_same if_changed
  same_quick e b t =
      ap (λ (f : ℕ → List Store). joined f F.layout.words 0)
      (fun_ext λ i. ap₂ (λ (x w : ℕ). if eqb x w then [] else store_at F t i w ∷ []) (word_is_peek F m t i) (word_quick e b i))

  new_quick : (e : Entry) (b new : ℕ) → new_table F m q e b new ≡ quick_new e b new
  unfolding new_table quick_new
  new_quick e b new = ap (λ (f : ℕ → List Store). joined f F.layout.words 0) (fun_ext λ i. ap (λ (w : ℕ). store_at F new i w ∷ []) (word_quick e b i))

  -- ---- the blocks

  module _ (root : ℕ) where
    unfoldable pub quick_link : Entry → ℕ → ℕ → List Store
    quick_link e b new = quick_new e b new ++ (store_l2 F root b (encode F.layout (table new)) ∷ [])

    -- "all 512 entries of a new page in order, then the L2 entry"
    words_then_link : (e : Entry) (b new : ℕ) → link_table F m q root e b new ≡ quick_link e b new
    unfolding link_table quick_link
    words_then_link e b new = ap (λ (l : List Store). l ++ (store_l2 F root b (encode F.layout (table new)) ∷ [])) (new_quick e b new)

    unfoldable pub quick_block : Form → Entry → ℕ → ℕ → List Store
    quick_block (want_flat p) e b new = if_changed_l2 F m root b (encode F.layout (flat p))
    quick_block (want_pieces info) e b new = if_changed_l2 F m root b (encode F.layout (pieces info))
    quick_block want_table (flat p) b new = quick_link (flat p) b new
    quick_block want_table (pieces info) b new = quick_link (pieces info) b new
    quick_block want_table (table t) b new = quick_same (table t) b t
    quick_block want_table invalid b new = quick_link invalid b new

    block_quick : (f : Form) (e : Entry) (b new : ℕ) → block_stores F m q root f e b new ≡ quick_block f e b new
    unfolding block_stores quick_block
    block_quick (want_flat p) e b new = refl
    block_quick (want_pieces info) e b new = refl
    block_quick want_table (flat p) b new = words_then_link (flat p) b new
    block_quick want_table (pieces info) b new = words_then_link (pieces info) b new
    block_quick want_table (table t) b new = same_quick (table t) b t
    block_quick want_table invalid b new = words_then_link invalid b new

    unfoldable pub quick_stores : ℕ → List Form → List ℕ → List Store
    quick_stores b [] free = []
    quick_stores b (f ∷ fs) free =
        quick_block f (entry_at F m root b) b (head_d free 0)
        ++ quick_stores (suc b) fs (if needs_page f (entry_at F m root b) then tail free else free)

    pub stores_quick : (b : ℕ) (fs : List Form) (free : List ℕ) → stores_from F m q root b fs free ≡ quick_stores b fs free
    unfolding stores_from quick_stores
    stores_quick b [] free = refl
    stores_quick b (f ∷ fs) free =
        ap₂ (λ (x y : List Store). x ++ y) (block_quick f (entry_at F m root b) b (head_d free 0))
        (stores_quick (suc b) fs (if needs_page f (entry_at F m root b) then tail free else free))
