-- What a caller of `monitor::edit` may rely on when calls are cut, the contract and the third demand together: `Recovers` of the memory, wherever
-- the last call ended; `Kept` of what the next one answers and leaves.
use Rattle.std.specs.Prelude.{◌≡◌, ◌⊎◌, ◌≢◌, Bool, true, List, [], ◌∷◌, ℕ, ◌≤◌, suc, ◌+◌, ◌-◌, ◌*◌, ◌^◌, eqb, if◌then◌else◌, Ok}
use Rattle.model.specs.Forms.{Request}
use Rattle.model.specs.Calls.{edit_refusal, edit_slot}
use Rattle.model.specs.Demands.{Accepted, BeforeOrAfter, Done, SamePermissions, Steady, free_count, stopped, whole}
use Rattle.types.specs.declared.Frame.{Frame}
use Rattle.types.specs.declared.Permission.{Permission}
use Rattle.types.specs.Views.{permission_number}
use Rattle.slots.specs.declared.Outcome.{Outcome}
use Rattle.types.specs.declared.Reply.TheVariants.{Edited}
use Rattle.slots.specs.Outcomes.{outcome_of}
use Rattle.monitor.specs.Edits.{request_from}
use Rattle.table.specs.Board.{board, frame_of}

-- how one call ends: it returns, or a watchdog resets the board after so many of its stores
pub data Ending : Type 0 where
  returned : ℕ → Outcome → List ℕ → Ending
  reset : ℕ → Ending

-- the calls share frame, slots, slot, start, length and permission
module _ (f : Frame) (slots : List ℕ) (slot start size : ℕ) (permission : Permission) where
  abbrev pub request : Request
  request = request_from slot start size (permission_number permission)

  -- the contract of `monitor::edit`: it found m, answered r and left m'
  abbrev pub Call : ℕ → List ℕ → Outcome → List ℕ → Type 0
  Call limit m r m' = outcome_of r m' ≡ edit_slot (frame_of f m) m slots request limit

  -- what a reset after k stores leaves of the memory m that its call found. A call that is refused makes none
  unfoldable pub interrupted : ℕ → List ℕ → List ℕ
  interrupted k m = if eqb (edit_refusal (frame_of f m) m slots request) 0 then stopped (frame_of f m) slots request k m else m

  -- calls one after another, each with a limit of its own, from the memory m to the memory m'
  unfoldable pub Reaches : List Ending → List ℕ → List ℕ → Type 0
  Reaches [] m m' = m ≡ m'
  Reaches (returned limit r m₁ ∷ es) m m' = Call limit m r m₁ × Reaches es m₁ m'
  Reaches (reset k ∷ es) m m' = Reaches es (interrupted k m) m'

  -- crash consistency: what holds of the memory m' wherever the last of the calls ended, right after a reset as after a return, before any
  -- other call is made; m is the memory that the first call found, and the edit is accepted there
  pub record CrashConsistent (m m' : List ℕ) : Type 0 where
    -- every address of every domain reads as before the first call or as after the whole edit; the next call is accepted, stores no more than
    -- the bound, and made whole ends in the same permissions, with as many pages free
    pub steady : Steady (frame_of f m) slots request m m'
    -- and what the whole edit leaves is what was asked
    pub asks : Done (frame_of f m) slots request m (whole (frame_of f m) slots request m)

  -- the same whatever is asked: the edit is accepted, or it is refused and no byte changes
  abbrev pub Recovers : List ℕ → List ℕ → Type 0
  Recovers m m' =
      (Accepted (frame_of f m) slots request m × CrashConsistent m m') ⊎ ((edit_refusal (frame_of f m) m slots request ≢ 0) × (m' ≡ m))

  -- what the next call answers and leaves; m is the memory that the first call found
  pub record Kept (m : List ℕ) (r : Outcome) (m' : List ℕ) : Type 0 where
    pub count : ℕ
    pub all : Bool
    -- it is not refused
    pub accepted : r.reply ≡ Ok (Edited count all)
    pub slots_kept : r.slots ≡ slots
    -- 1,536 on RV64, 2,560 on RV32
    pub few : count ≤ 2 ^ (board.max_paw - 25) - 2 + 2 * suc board.words
    -- what the whole edit leaves is what was asked: the permission on every address of the range, every other address of every domain as it read
    pub asks : Done (frame_of f m) slots request m (whole (frame_of f m) slots request m)
    -- every address of every domain reads as before the first call or as after the whole edit
    pub steady : BeforeOrAfter (frame_of f m) slots m (whole (frame_of f m) slots request m) m'
    -- and if those were all its stores, as after the whole edit, with as many pages free
    pub same_permissions : all ≡ true → SamePermissions (frame_of f m) slots m' (whole (frame_of f m) slots request m)
    pub same_free : all ≡ true → free_count (frame_of f m) slots m' ≡ free_count (frame_of f m) slots (whole (frame_of f m) slots request m)
