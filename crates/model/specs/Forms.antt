-- An edit's range, the permissions once it is whole, and the finished form of each block.
use Rattle.std.specs.Prelude.{Bool, ◌&&◌, List, [], ◌∷◌, ◌++◌, ℕ, zero, suc, ◌+◌, ◌*◌, ◌-◌, ◌/◌, eqb, ltb, leb, if◌then◌else◌}
use Rattle.model.specs.Numbers.{every, pack}
use Rattle.model.specs.Layout.{page_bytes, block_pages, gib_bytes, gib_blocks, gib_pages, piece_pages}
use Rattle.model.specs.Entry.{Entry, Found, perm, faults}
use Rattle.model.specs.Frame.{Frame}
use Rattle.model.specs.Walk.{pn2, entry_at, found}

-- "An edit names a slot, start, length, permission (one of the four)"; its limit on stores is apart
pub record Request : Type 0 where
  pub slot : ℕ
  pub start : ℕ
  pub size : ℕ
  pub permission : ℕ

-- page n lies in the range
unfoldable pub in_range : Request → ℕ → Bool
in_range q n = leb q.start (n * page_bytes) && ltb (n * page_bytes) (q.start + q.size)

-- the GiBs that the range touches: the first, and how many
unfoldable pub first_gib : Request → ℕ
first_gib q = q.start / gib_bytes

unfoldable pub gibs : Request → ℕ
gibs q = (q.start + q.size - 1) / gib_bytes - first_gib q + 1

-- The finished form of a block: one permission, a 1G type; a permission for each piece; or an L1 page
pub data Form : Type 0 where
  want_flat : ℕ → Form
  want_pieces : ℕ → Form
  want_table : Form

-- a walk that faults grants nothing. (In a sound table none does, inside the address space.)
unfoldable pub perm_of : Found → ℕ
perm_of (perm p) = p
perm_of faults = 0

module _ (F : Frame) where
  -- the first page of piece i of block b
  abbrev pub piece_start : ℕ → ℕ → ℕ
  piece_start b i = b * block_pages + i * piece_pages F.layout

  module _ (m : List ℕ) (q : Request) where
    -- the permission, once the edit is whole, of a page whose L2 entry is e: the asked one in the range, else the one that stands
    unfoldable pub after_in : Entry → ℕ → ℕ
    after_in e n = if in_range q n then q.permission else perm_of (found F m e n)

    -- the n pages from s, all of a block whose entry is e, are of permission p
    unfoldable pub all_are : Entry → ℕ → ℕ → ℕ → Bool
    all_are e p n s = every (λ k. eqb (after_in e k) p) n s

    -- "a block whose 2 MiB pieces are each of one permission", and those permissions
    unfoldable pub pieces_are_one : Entry → ℕ → Bool
    pieces_are_one e b = every (λ i. all_are e (after_in e (piece_start b i)) (piece_pages F.layout) (piece_start b i)) F.layout.pieces 0

    unfoldable pub pieces_info : Entry → ℕ → ℕ
    pieces_info e b = pack 4 (λ i. after_in e (piece_start b i)) F.layout.pieces 0

    -- "a GiB of one permission is 32 entries of that 1G type; otherwise a block whose 2 MiB pieces are each of one permission is TYPE
    -- 6; any other block is TYPE 4": of block b, whose entry is e, in a GiB that is or is not of one permission, p
    unfoldable pub form_in : Bool → ℕ → Entry → ℕ → Form
    form_in gibOne p e b = if gibOne then want_flat p else if pieces_are_one e b then want_pieces (pieces_info e b) else want_table

    -- L1 entry i of block b, once the edit is whole
    unfoldable pub l1_word : Entry → ℕ → ℕ → ℕ
    l1_word e b i = pack 16 (after_in e) F.layout.fields (b * block_pages + i * F.layout.fields)

    module _ (root : ℕ) where
      -- the permission of page n once the edit is whole
      unfoldable pub after : ℕ → ℕ
      after n = after_in (entry_at F m root (pn2 n)) n

      -- the permission of the first page of GiB g; and is the whole GiB of permission p?
      unfoldable pub gib_first : ℕ → ℕ
      gib_first g = after (g * gib_pages)

      unfoldable pub gib_is_one : ℕ → ℕ → Bool
      gib_is_one g p = every (λ b. all_are (entry_at F m root b) p block_pages (b * block_pages)) gib_blocks (g * gib_blocks)

      -- the finished forms of n blocks from b, all of one GiB
      unfoldable pub forms_in : Bool → ℕ → ℕ → ℕ → List Form
      forms_in gibOne p zero b = []
      forms_in gibOne p (suc n) b = form_in gibOne p (entry_at F m root b) b ∷ forms_in gibOne p n (suc b)

      -- of the blocks of n GiBs from g
      unfoldable pub forms_of : ℕ → ℕ → List Form
      forms_of zero g = []
      forms_of (suc n) g = forms_in (gib_is_one g (gib_first g)) (gib_first g) gib_blocks (g * gib_blocks) ++ forms_of n (suc g)

      -- "Over every GiB that the range touches, the finished form is fixed"
      unfoldable pub forms : List Form
      forms = forms_of (gibs q) (first_gib q)
