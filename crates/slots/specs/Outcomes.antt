-- What a call leaves, as the model's: its reply and fence, the slots, and beside them the memory.
use Rattle.std.specs.Prelude.{List, ℕ, Result, get_or, set, Ok, Err}
use Rattle.model.specs.Register.{sdid_of}
use Rattle.model.specs.Sound.{register, empty_slot}
use Rattle.table.specs.Board.{board}
use Rattle.model.specs.Calls as calls
use Rattle.types.specs.declared.Refusal.{Refusal}
use Rattle.types.specs.declared.Fence.TheVariants.{Nothing, Domain}
use Rattle.types.specs.Views.{reply_of, fence_of}
use Rattle.types.specs.declared.Reply.TheVariants.{Closed}
use Rattle.slots.specs.declared.Outcome.{Outcome}

abbrev pub outcome_of : Outcome → List ℕ → calls.Outcome
outcome_of o m = record { reply = reply_of o.reply; memory = m; slots = o.slots; fence = fence_of o.fence }

-- "A refusal returns its number, changes .. no slot, and asks for no fence."
abbrev pub refused_outcome : Refusal → List ℕ → Outcome
refused_outcome r slots = record { reply = Err r; slots = slots; fence = Nothing }

-- the answer of a call that came to an outcome, or was refused
abbrev pub answered : List ℕ → Result Outcome Refusal → Outcome
answered slots (Ok o) = o
answered slots (Err why) = refused_outcome why slots

-- "Closing empties the slot, writes no byte and asks for a domain fence."
abbrev pub closed_at : List ℕ → ℕ → Outcome
closed_at slots s = record { reply = Ok Closed; slots = set slots s empty_slot; fence = Domain (record { 0 = sdid_of board (register (get_or slots s 0)) }) }
