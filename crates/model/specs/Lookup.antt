-- The lookup, and how an address reads.
use Rattle.std.specs.Prelude.{Bool, true, false, not, List, ℕ, if◌then◌else◌}
use Rattle.model.specs.Register.{ppn_of, is_bare, register_ok}
use Rattle.model.specs.Frame.{Frame, page_of, frame_ok}
use Rattle.model.specs.Walk.{walk}
use Rattle.model.specs.Access.{Kind, Answer, refused, allowed, judge}

-- The effective privilege
pub data Privilege : Type 0 where
  machine supervisor user : Privilege

unfoldable pub is_machine : Privilege → Bool
is_machine machine = true
is_machine supervisor = false
is_machine user = false

module _ (F : Frame) where
  -- "How an address of it reads is what the walk answers from that slot's register and the memory as it stands, outside M mode: for
  -- each kind of access, allowed or which fault."
  unfoldable pub reads : List ℕ → ℕ → ℕ → Kind → Answer
  reads m register address kind = judge (walk F m (ppn_of F.layout register) (page_of address)) kind

  -- "A lookup checks the frame, then the register, then: effective privilege M is allowed; Bare is allowed; else the walk."
  unfoldable pub lookup : List ℕ → ℕ → Privilege → ℕ → Kind → Answer
  lookup m register privilege address kind =
      if not (frame_ok F m) then refused 1 else
      if not (register_ok F.layout register) then refused 2 else
      if is_machine privilege then allowed else
      if is_bare F.layout register then allowed else
      reads m register address kind
