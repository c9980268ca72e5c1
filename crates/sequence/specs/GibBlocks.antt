-- Blocks of one GiB: its one permission, a new page for one that needs it, and what a step over several did.
use Rattle.std.specs.Prelude.{◌≡◌, true, false, List, ℕ, Option, ◌+◌, ◌%◌, ◌^◌, ◌≤◌, ◌<◌, Some, None, drop}
use Rattle.model.specs.Layout.{gib_blocks}
use Rattle.model.specs.Frame.{Frame, lent}
use Rattle.model.specs.Walk.{entry_at}
use Rattle.model.specs.Forms.{Request, gib_first, gib_is_one}
use Rattle.model.specs.Stores.{needs_page}
use Rattle.types.specs.declared.Budget.{Budget}
use Rattle.types.specs.declared.BlocksProgress.{BlocksProgress}
use Rattle.shapes.specs.Blocks.{form_in_gib, stores_over, pages_over}
use Rattle.shapes.specs.Run.{out, run}

-- gib is the one permission of GiB g, if it has one. None says that the GiB is mixed, and no more; `GibIs` (shapes/specs/Blocks) also says which
-- permission its first page has
abbrev pub OneIs : Frame → List ℕ → Request → ℕ → ℕ → Option ℕ → Type 0
OneIs F m q root g (Some p) = (p ≡ gib_first F m q root g) × (gib_is_one F m q root g p ≡ true) × (p < 4)
OneIs F m q root g None = gib_is_one F m q root g (gib_first F m q root g) ≡ false

-- new is a page that block b may take, if it needs one
abbrev pub HasNewPage : Frame → List ℕ → Request → ℕ → Option ℕ → ℕ → ℕ → Type 0
HasNewPage F m q root gib b new = needs_page (form_in_gib F m q root gib b) (entry_at F m root b) ≡ true → (lent F new ≡ true) × (new < 2 ^ F.layout.info_bits)

-- what a step did: the stores of some blocks from b, all of one GiB, with the free pages from place next on
pub record Advanced (F : Frame) (m : List ℕ) (q : Request) (root : ℕ) (gib : Option ℕ) (b : ℕ) (free : List ℕ) (next : ℕ) (left : Budget) (step : BlocksProgress) (m' : List ℕ) : Type 0 where
  pub made : out step.left m' ≡ run left (stores_over F m q root gib step.count b (drop next free)) m
  pub pages : step.next ≡ next + pages_over F m q root gib step.count b
  pub some : 1 ≤ step.count
  pub within : b % gib_blocks + step.count ≤ gib_blocks
