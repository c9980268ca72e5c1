-- A run: "Domains load and store single bytes through the walk, in any order; no edits, no M mode, no Bare."
use Rattle.std.specs.Prelude.{◌≡◌, Bool, true, false, List, [], ◌∷◌, ℕ, eqb, if◌then◌else◌}
use Rattle.model.specs.Frame.{Frame}
use Rattle.model.specs.Access.{Kind, itself, fetch, load, store, Answer, refused, allowed, fault}
use Rattle.model.specs.Lookup.{lookup, supervisor}
use Rattle.isolation.specs.Board.{Board, load_byte, store_byte, table_of}

-- "load and store single bytes". A fetch is ours: it is how domains use program code that they share
pub data Operation : Type 0 where
  loads fetches : Operation
  stores : ℕ → Operation

-- an access: by which domain, named by its register, as in the demands; where; and what
pub record Action : Type 0 where
  pub by : ℕ
  pub address : ℕ
  pub operation : Operation

unfoldable pub kind_of : Operation → Kind
kind_of loads = itself load
kind_of fetches = itself fetch
kind_of (stores v) = itself store

-- what an access gives the domain that makes it: a byte; that its byte was stored; or what the lookup says instead
pub data Output : Type 0 where
  byte : ℕ → Output
  stored : Output
  denied : Answer → Output

unfoldable pub is_allowed : Answer → Bool
is_allowed (refused n) = false
is_allowed allowed = true
is_allowed (fault c) = false

-- "A load that the walk allows gives the byte standing there"
unfoldable pub gives : Board → ℕ → Operation → Output
gives B address loads = byte (load_byte B address)
gives B address fetches = byte (load_byte B address)
gives B address (stores v) = stored

-- "an allowed store changes that byte alone"
unfoldable pub changes : Board → ℕ → Operation → Board
changes B address loads = B
changes B address fetches = B
changes B address (stores v) = store_byte B address v

-- "and any other access faults as a lookup says and changes nothing"
unfoldable pub output : Board → Action → Answer → Output
output B a answer = if is_allowed answer then gives B a.address a.operation else denied answer

unfoldable pub next : Board → Action → Answer → Board
next B a answer = if is_allowed answer then changes B a.address a.operation else B

-- the accesses of one domain, in their order
unfoldable pub actions_of : ℕ → List Action → List Action
actions_of r [] = []
actions_of r (a ∷ acts) = if eqb a.by r then a ∷ actions_of r acts else actions_of r acts

-- a domain chooses: each of its accesses is what `choose` makes of the outputs before it, newest first
abbrev pub Follows : (List Output → Action) → List Output → List Action → List Output → Type 0
Follows choose before [] outputs = Unit {0}
Follows choose before (a ∷ acts) [] = ⊥
Follows choose before (a ∷ acts) (o ∷ outputs) = (a ≡ choose before) × Follows choose (o ∷ before) acts outputs

module _ (F : Frame) where
  -- what a lookup in the table as it stands says of an access: "no M mode", and below M each mode reads the same
  unfoldable pub answer : Board → Action → Answer
  answer B a = lookup F (table_of F B) a.by supervisor a.address (kind_of a.operation)

  -- what the accesses of a run, made in their order, give one domain
  unfoldable pub outputs_of : ℕ → Board → List Action → List Output
  outputs_of r B [] = []
  outputs_of r B (a ∷ acts) =
      if eqb a.by r then output B a (answer B a) ∷ outputs_of r (next B a (answer B a)) acts else outputs_of r (next B a (answer B a)) acts

  -- and the memory that they leave
  unfoldable pub final : Board → List Action → Board
  final B [] = B
  final B (a ∷ acts) = final (next B a (answer B a)) acts
