-- Where an edit stands between two of its stores.
use Rattle.std.specs.Prelude.{◌≡◌, List, ◌++◌, ℕ, ◌+◌, ◌<◌, length}
use Rattle.model.specs.Frame.{Frame}
use Rattle.model.specs.Sound.{Slot}
use Rattle.model.specs.Forms.{Request}
use Rattle.model.specs.Stores.{Store}
use Rattle.model.specs.Calls.{store_list}
use Rattle.model.specs.Demands.{Typed, Accepted, stopped}

-- an edit that no refusal fits, and the memory that its call found
pub record AcceptedEdit : Type 0 where
  pub F : Frame
  pub slots : List Slot
  pub q : Request
  pub found : List ℕ
  pub typed : Typed F q found
  pub accepted : Accepted F slots q found

-- its ordered list, and the bytes that limit k leaves
abbrev pub list_of : AcceptedEdit → List Store
list_of e = store_list e.F e.found e.slots e.q

abbrev pub leaves : AcceptedEdit → ℕ → List ℕ
leaves e k = stopped e.F e.slots e.q k e.found

-- m is what an edit's first stores left, and its list goes on with `next`
pub record Ahead (m : List ℕ) (next : List Store) : Type 0 where
  pub edit : AcceptedEdit
  pub made : List Store
  pub later : List Store
  pub order : list_of edit ≡ made ++ (next ++ later)
  pub stands : m ≡ leaves edit (length made)

-- store k of edit e: "for each k below the list's length, to turn the bytes that limit k leaves into those that limit k + 1 leaves"
pub record Turned (e : AcceptedEdit) (k : ℕ) (before after : List ℕ) : Type 0 where
  pub below : k < length (list_of e)
  pub was : before ≡ leaves e k
  pub is : after ≡ leaves e (k + 1)

-- what is promised of each single store: it is store k of an edit; and of every edit, the caller's own among them, whose first stores left
-- `before` and whose list goes on with `next`, it is that store
pub record NextStore (before : List ℕ) (next : List Store) (after : List ℕ) : Type 0 where
  pub edit : AcceptedEdit
  pub k : ℕ
  pub turned : Turned edit k before after
  pub each : (a : Ahead before next) → Turned a.edit (length a.made) before after
