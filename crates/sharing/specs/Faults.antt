-- What is at fault with a page, by what each slot may do there.
use Rattle.std.specs.Prelude.{Bool, true, false, ◌&&◌, ◌||◌, List, [], ◌∷◌, ℕ, if◌then◌else◌}
use Rattle.model.specs.Numbers.{joined}
use Rattle.model.specs.Layout.{slot_count}
use Rattle.model.specs.Register.{ppn_of}
use Rattle.model.specs.Entry.{perm}
use Rattle.model.specs.Frame.{Frame}
use Rattle.model.specs.Walk.{walk}
use Rattle.model.specs.Sound.{Slot, register, is_open}
use Rattle.model.specs.Forms.{perm_of}
use Rattle.model.specs.Apart.{Strength, Separation, grants_any, table_fault, pair_fault}
use Rattle.sharing.specs.Crowds.{reach_of}

-- there is something in a list
abbrev pub some : List Separation → Bool
some [] = false
some (x ∷ xs) = true

-- two permissions for a page: by one it is open, by the other it is reached
abbrev pub meet : Strength → ℕ → ℕ → Bool
meet s p q = grants_any (perm p) && reach_of s (perm q) || reach_of s (perm p) && grants_any (perm q)

module _ (F : Frame) (m : List ℕ) where
  -- what a slot may do with a page; nothing, if it is empty or if the walk faults
  unfoldable pub slot_grants : Slot → ℕ → ℕ
  slot_grants slot page = if is_open slot then perm_of (walk F m (ppn_of F.layout (register slot)) page) else 0

  -- the two parts of `faults_at`
  module _ (slots : List Slot) (s : Strength) where
    abbrev pub table_faults : ℕ → List Separation
    table_faults page = joined (table_fault F m slots s page) slot_count 0

    abbrev pub pair_faults : ℕ → List Separation
    pair_faults page = joined (λ i. joined (pair_fault F m slots s page i) slot_count 0) slot_count 0
