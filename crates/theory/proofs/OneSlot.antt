-- One slot changes: what that does to all that is counted over the open slots' registers.
-- The idea: what adds up over joined lists changes by the register that goes and the one that comes.
use Rattle.std.specs.Prelude.{if◌then◌else◌}
use mathlib.Core.Path.{◌≡◌, refl, ap, ◌∙◌}
use mathlib.Core.Bool.{true, false}
use mathlib.Core.List.{List, [], ◌∷◌, ◌++◌, map, map-append}
use Prim.Native.Nat.{ℕ, zero, suc, ◌+◌, ◌<◌}
use native.Mathlib.Omega.{arith}
use lib.ListN.{length, get_or, set}
use Rattle.model.specs.Sound.{Slot, empty_slot, is_open, open_registers, register}
use Rattle.laws.proofs.Choices.{split}
use Rattle.laws.proofs.Sums.{Measure, total}
use Rattle.laws.proofs.Times.{times, times_append, times_none}

-- the register of a slot, if it is open
unfoldable pub cell : Slot → List ℕ
cell s = if is_open s then register s ∷ [] else []

registers_step : (s : Slot) (ss : List Slot) → open_registers (s ∷ ss) ≡ cell s ++ open_registers ss
unfolding open_registers cell
registers_step s ss = split (is_open s) (λ z. rw z refl) (λ z. rw z refl)

pub slot_change : (μ : List ℕ → ℕ) → Measure μ → (slots : List Slot) (i : ℕ) (v : Slot) → i < length slots
    → μ (open_registers (set slots i v)) + μ (cell (get_or slots i empty_slot)) ≡ μ (open_registers slots) + μ (cell v)
slot_change μ h [] i v l = absurd (omega arith)
slot_change μ h (s ∷ ss) zero v l =
    omega (
      arith,
      ap μ (registers_step v ss) ∙ h.join (cell v) (open_registers ss),
      ap μ (registers_step s ss) ∙ h.join (cell s) (open_registers ss),
    )
slot_change μ h (s ∷ ss) (suc i) v l =
    omega (
      arith,
      ap μ (registers_step s (set ss i v)) ∙ h.join (cell s) (open_registers (set ss i v)),
      ap μ (registers_step s ss) ∙ h.join (cell s) (open_registers ss),
      slot_change μ h ss i v (omega arith),
    )

pub cell_open : (s : Slot) → is_open s ≡ true → cell s ≡ register s ∷ []
unfolding cell
cell_open s h = rw h

pub cell_shut : (s : Slot) → is_open s ≡ false → cell s ≡ []
unfolding cell
cell_shut s h = rw h

-- ---- what is counted: images of the registers

pub image_times : (f : ℕ → ℕ) (x : ℕ) → Measure (λ l. times x (map f l))
image_times f x = record { none = times_none x; join = λ s t. ap (times x) (map-append f s t) ∙ times_append x (map f s) (map f t) }

pub image_total : (g f : ℕ → ℕ) → Measure (λ l. total g (map f l))
unfolding total
image_total g f = record { none = refl; join = λ s t. total_map g f s t }
  where
    total_map : (g f : ℕ → ℕ) (s t : List ℕ) → total g (map f (s ++ t)) ≡ total g (map f s) + total g (map f t)
    total_map g f [] t = omega arith
    total_map g f (x ∷ xs) t = omega (arith, total_map g f xs t)
