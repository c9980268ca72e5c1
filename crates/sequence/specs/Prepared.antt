-- What the contracts ask of an accepted edit, and the list of its stores.
use Rattle.std.specs.Prelude.{◌≡◌, List, ℕ, ◌*◌, ◌<◌, ◌^◌, take, get_or}
use Rattle.model.specs.Layout.{gib_blocks}
use Rattle.model.specs.Frame.{Frame}
use Rattle.model.specs.Sound.{free_pages, roots}
use Rattle.model.specs.Forms.{Request, first_gib, forms}
use Rattle.model.specs.Stores.{Store, stores_from}
use Rattle.model.specs.Calls.{edit_refusal, root_of}

-- no refusal fits the edit: root is its slot's root page, and free the lowest free pages
pub record Prepared (F : Frame) (m : List ℕ) (q : Request) (root : ℕ) (free : List ℕ) : Type 0 where
  pub small : q.permission < 4
  pub slots : List ℕ
  pub none : edit_refusal F m slots q ≡ 0
  pub is_root : root ≡ root_of F slots q
  pub are_free : free ≡ take 2 (free_pages F m (roots F slots))
  pub typed : (i : ℕ) → get_or m i 0 < 16 ^ F.layout.fields

-- the ordered list of its stores
abbrev pub whole_list : Frame → List ℕ → Request → ℕ → List ℕ → List Store
whole_list F m q root free = stores_from F m q root (first_gib q * gib_blocks) (forms F m q root) free
