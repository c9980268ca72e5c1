-- What each call answers to C, in one word of 64 bits; and the memory that an edit leaves.
use Rattle.std.specs.Prelude.{List, ℕ, ◌+◌, ◌*◌, get_or, if◌then◌else◌}
use Rattle.model.specs.Frame.{Frame, frame_ok}
use Rattle.model.specs.Access.{Kind}
use Rattle.model.specs.Lookup.{Privilege, lookup}
use Rattle.model.specs.Sound.{Slot, sound}
use Rattle.model.specs.Calls.{Outcome, edit_slot}
use Rattle.model.specs.Apart.{Strength, apart_answer}
use Rattle.types.specs.Codes.{Named, known, unknown, answer_word, reply_word, separation_word}
use Rattle.monitor.specs.Edits.{request_from}

-- the version of the interface: 2.1
abbrev pub version : ℕ
version = 2 * 65536 + 1

-- where a code names nothing
abbrev pub no_code : ℕ
no_code = 255

abbrev pub opened_word : Outcome → ℕ → ℕ
opened_word o slot = reply_word o.reply o.fence (get_or o.slots slot 0)

-- a close or an edit, which has no register to tell
abbrev pub done_word : Outcome → ℕ
done_word o = reply_word o.reply o.fence 0

-- ---- the calls

module _ (F : Frame) (m : List ℕ) where
  abbrev pub lookup_word : ℕ → Named Privilege → Named Kind → ℕ → ℕ
  lookup_word register (known privilege) (known kind) address = answer_word (lookup F m register privilege address kind)
  lookup_word register (known privilege) unknown address = no_code
  lookup_word register unknown kind address = no_code

  -- 0 sound, 1 a frame out of its bounds, 3 not sound
  unfoldable pub sound_word : List Slot → ℕ
  sound_word slots = if frame_ok F m then (if sound F m slots then 0 else 3) else 1

  -- are the domains kept apart?
  abbrev pub apart_word : List Slot → Named Strength → ℕ
  apart_word slots (known s) = separation_word (apart_answer F m slots s)
  apart_word slots unknown = no_code

  -- what an edit answers, and the memory that it leaves
  abbrev pub edit_word : List Slot → ℕ → ℕ → ℕ → Named ℕ → ℕ → ℕ
  edit_word slots slot start length (known p) limit = done_word (edit_slot F m slots (request_from slot start length p) limit)
  edit_word slots slot start length unknown limit = no_code

  abbrev pub edit_memory : List Slot → ℕ → ℕ → ℕ → Named ℕ → ℕ → List ℕ
  edit_memory slots slot start length (known p) limit = (edit_slot F m slots (request_from slot start length p) limit).memory
  edit_memory slots slot start length unknown limit = m
