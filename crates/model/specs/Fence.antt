-- Which fence a call asks for.
use Rattle.std.specs.Prelude.{Bool, false, not, ◌&&◌, List, [], ◌∷◌, ℕ, eqb, ltb, leb, length, take, if◌then◌else◌}
use Rattle.model.specs.Layout.{page_bytes}
use Rattle.model.specs.Frame.{Frame, blocks, index_of}
use Rattle.model.specs.Forms.{Request}
use Rattle.model.specs.Stores.{Store}

-- None; the whole domain, by its SDID; or one address of it. SDID 0 and address 0 are values like any other
pub data Fence : Type 0 where
  no_fence : Fence
  domain_fence : ℕ → Fence
  address_fence : ℕ → ℕ → Fence

module _ (F : Frame) (root : ℕ) where
  -- word at is an L2 entry of the root. A store that is not into the root is into an L1 entry
  unfoldable pub in_root : ℕ → Bool
  in_root at = leb (index_of F root 0) at && ltb at (index_of F root (blocks F))

  -- "a whole edit of one store into an L1 entry"
  unfoldable pub one_l1_store : List Store → Bool
  one_l1_store [] = false
  one_l1_store (s ∷ []) = not (in_root s.at)
  one_l1_store (s ∷ t ∷ ss) = false

  -- "Fence asked: no store made, none. Range of one page and a whole edit of one store into an L1 entry: that address and SDID.
  -- Otherwise the whole domain."
  unfoldable pub fence_for : Request → ℕ → List Store → ℕ → Fence
  fence_for q sdid whole limit =
      if eqb (length (take limit whole)) 0 then no_fence else
      if eqb q.size page_bytes && one_l1_store whole then address_fence q.start sdid else
      domain_fence sdid
