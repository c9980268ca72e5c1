-- What an edit that no refusal fits answers.
use Rattle.std.specs.Prelude.{◌≡◌, Bool, not, ◌&&◌, List, ℕ, eqb, leb, length, take, if◌then◌else◌}
use Rattle.model.specs.Layout.{page_bytes}
use Rattle.model.specs.Frame.{Frame}
use Rattle.model.specs.Forms.{Request}
use Rattle.model.specs.Stores.{Store, apply}
use Rattle.model.specs.Fence as model
use Rattle.types.specs.Views.{fence_of}
use Rattle.types.specs.declared.StoresMade.{StoresMade}

-- the fence, from what the code counts: how many stores, whether that was all, and where the last one went
unfoldable pub fence_after : Frame → Request → ℕ → ℕ → ℕ → Bool → ℕ → model.Fence
fence_after F q root sdid count all at =
    if eqb count 0 then model.no_fence else
    if eqb q.size page_bytes && (eqb count 1 && (all && not (model.in_root F root at))) then model.address_fence q.start sdid else
    model.domain_fence sdid

-- the first stores of the list up to the limit are made, and the answer says so
pub record StoresMadeIs (F : Frame) (q : Request) (root sdid : ℕ) (whole : List Store) (limit : ℕ) (m m' : List ℕ) (r : StoresMade) : Type 0 where
  pub memory : m' ≡ apply (take limit whole) m
  pub count : r.count ≡ length (take limit whole)
  pub all : r.all ≡ leb (length whole) limit
  pub fence : fence_of r.fence ≡ model.fence_for F root q sdid whole limit
