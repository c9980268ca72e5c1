-- The slots: what a call asks of the one it names, and the SDIDs in use.
use Rattle.std.specs.Prelude.{Bool, ◌&&◌, ◌||◌, not, List, map, ℕ, eqb, ltb}
use Rattle.model.specs.Numbers.{member}
use Rattle.model.specs.Layout.{Layout, slot_count, max_sdid}
use Rattle.model.specs.Register.{sdid_of}
use Rattle.model.specs.Sound.{Slot, register, is_open, open_registers}
use Rattle.model.specs.Calls.{slot_at}

-- 4: "slot above 7; empty for close or edit; in use for open"
abbrev pub not_open : List Slot → ℕ → Bool
not_open slots s = not (ltb s slot_count) || not (is_open (slot_at slots s))

abbrev pub not_empty : List Slot → ℕ → Bool
not_empty slots s = not (ltb s slot_count) || is_open (slot_at slots s)

-- a slot is open with this SDID
abbrev pub holds : Layout → Slot → ℕ → Bool
holds L slot sdid = is_open slot && eqb sdid (sdid_of L (register slot))

abbrev pub open_sdids : Layout → List Slot → List ℕ
open_sdids L slots = map (sdid_of L) (open_registers slots)

-- 8: "SDID above 63 or held by another open slot"
abbrev pub bad_sdid : Layout → List Slot → ℕ → Bool
bad_sdid L slots sdid = ltb max_sdid sdid || member sdid (open_sdids L slots)
