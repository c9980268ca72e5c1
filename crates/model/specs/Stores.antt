-- The ordered list of an edit's stores, and how many new pages it takes.
use Rattle.std.specs.Prelude.{Bool, true, false, ℕ, suc, ◌+◌, eqb, set, if◌then◌else◌}
use mathlib.Core.List.{List, [], ◌∷◌, ◌++◌, tail, head_d}
use Rattle.model.specs.Numbers.{joined}
use Rattle.model.specs.Entry.{Entry, flat, pieces, table, invalid, encode}
use Rattle.model.specs.Frame.{Frame, index_of, word_at}
use Rattle.model.specs.Walk.{entry_page, entry_place, l2_word, entry_at}
use Rattle.model.specs.Forms.{Request, Form, want_flat, want_pieces, want_table, l1_word}

-- One store: which word of the memory, and what it becomes. "Each store is whole, old entry or new."
pub record Store : Type 0 where
  pub at : ℕ
  pub word : ℕ

-- the memory with these stores made, in order
unfoldable pub apply : List Store → List ℕ → List ℕ
apply [] m = m
apply (s ∷ ss) m = apply ss (set m s.at s.word)

-- "TYPE 4 wanted, not TYPE 4 now": a new page
unfoldable pub needs_page : Form → Entry → Bool
needs_page (want_flat p) e = false
needs_page (want_pieces info) e = false
needs_page want_table (flat p) = true
needs_page want_table (pieces info) = true
needs_page want_table (table t) = false
needs_page want_table invalid = true

module _ (F : Frame) where
  -- a store to entry i of page p, and one to L2 entry b of a root
  unfoldable pub store_at : ℕ → ℕ → ℕ → Store
  store_at p i w = record { at = index_of F p i; word = w }

  unfoldable pub store_l2 : ℕ → ℕ → ℕ → Store
  store_l2 root b w = store_at (entry_page F root b) (entry_place F b) w

  module _ (m : List ℕ) where
    -- the same, if the entry changes
    unfoldable pub if_changed : ℕ → ℕ → ℕ → List Store
    if_changed p i w = if eqb (word_at F m p i) w then [] else store_at p i w ∷ []

    unfoldable pub if_changed_l2 : ℕ → ℕ → ℕ → List Store
    if_changed_l2 root b w = if eqb (l2_word F m root b) w then [] else store_l2 root b w ∷ []

    -- how many new pages the blocks from b take that are to have these finished forms
    unfoldable pub new_pages : ℕ → ℕ → List Form → ℕ
    new_pages root b [] = 0
    new_pages root b (f ∷ fs) = (if needs_page f (entry_at F m root b) then 1 else 0) + new_pages root (suc b) fs

    module _ (q : Request) where
      -- "those L1 entries that change, in order, in the same page"
      unfoldable pub same_table : Entry → ℕ → ℕ → List Store
      same_table e b t = joined (λ i. if_changed t i (l1_word F m q e b i)) F.layout.words 0

      -- "all 512 entries of a new page in order"
      unfoldable pub new_table : Entry → ℕ → ℕ → List Store
      new_table e b new = joined (λ i. store_at new i (l1_word F m q e b i) ∷ []) F.layout.words 0

      module _ (root : ℕ) where
        -- "all 512 entries of a new page in order, then the L2 entry"
        unfoldable pub link_table : Entry → ℕ → ℕ → List Store
        link_table e b new = new_table e b new ++ (store_l2 root b (encode F.layout (table new)) ∷ [])

        -- the stores of block b, whose entry is e: "TYPE 4 wanted, not TYPE 4 now", "TYPE 4 wanted and present", "else the L2 entry,
        -- if it changes"
        unfoldable pub block_stores : Form → Entry → ℕ → ℕ → List Store
        block_stores (want_flat p) e b new = if_changed_l2 root b (encode F.layout (flat p))
        block_stores (want_pieces info) e b new = if_changed_l2 root b (encode F.layout (pieces info))
        block_stores want_table (flat p) b new = link_table (flat p) b new
        block_stores want_table (pieces info) b new = link_table (pieces info) b new
        block_stores want_table (table t) b new = same_table (table t) b t
        block_stores want_table invalid b new = link_table invalid b new

        -- "block by block upward": of the blocks from b, with these finished forms. "New pages are the lowest pages free before the
        -- edit, in block order": they are taken from the front of the list
        unfoldable pub stores_from : ℕ → List Form → List ℕ → List Store
        stores_from b [] free = []
        stores_from b (f ∷ fs) free =
            block_stores f (entry_at F m root b) b (head_d free 0)
            ++ stores_from (suc b) fs (if needs_page f (entry_at F m root b) then tail free else free)
