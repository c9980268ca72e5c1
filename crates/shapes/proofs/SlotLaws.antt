-- The slots one after another: those that are left decide whether an SDID is held; and so do the words that are left of a page to zero.
use Rattle.std.specs.Prelude.{if◌then◌else◌}
use mathlib.Core.Path.{◌≡◌, refl, sym, ap, ap₂, ◌∙◌}
use mathlib.Core.Bool.{Bool, true, false, not, ◌&&◌, ◌||◌}
use mathlib.Core.List.{List, ◌∷◌, map}
use Prim.Native.Nat.{ℕ, suc, ◌+◌, ◌-◌, ◌≤◌, ◌<◌}
use native.Mathlib.Nat.{add-zero}
use native.Mathlib.Omega.{arith}
use native.Mathlib.Numerals.{add-one}
use lib.Dec.{eqb, ltb}
use lib.ListN.{length, get_or, set, drop, drop_of_length-le, replicate}
use lib.Seq.{drop-cons, sets}
use borrow.Author.Tests.{ltb-true, ltb-false}
use Rattle.model.specs.Layout.{Layout, slot_count, max_sdid}
use Rattle.model.specs.Numbers.{member}
use Rattle.model.specs.Register.{sdid_of}
use Rattle.model.specs.Sound.{Slot, register, is_open, open_registers}
use Rattle.laws.proofs.Choices.{not-false-true, or_false}
use Rattle.laws.proofs.Lists.{member_step}
use Rattle.shapes.specs.Slots.{holds, open_sdids}

module _ (L : Layout) (sdid : ℕ) where
  held_step : (s : Slot) (ss : List Slot) → member sdid (open_sdids L (s ∷ ss)) ≡ (holds L s sdid || member sdid (open_sdids L ss))
  unfolding open_registers
  held_step s ss = go (is_open s)
    where
      go : (b : Bool) → member sdid (map (sdid_of L) (if b then register s ∷ open_registers ss else open_registers ss))
          ≡ ((b && eqb sdid (sdid_of L (register s))) || member sdid (open_sdids L ss))
      go true = member_step sdid (sdid_of L (register s)) (open_sdids L ss)
      go false = refl

  module _ (slots : List Slot) (i : ℕ) (h : i < length slots) where
    held_next : member sdid (open_sdids L (drop i slots)) ≡ (holds L (get_or slots i 0) sdid || member sdid (open_sdids L (drop (i + 1) slots)))
    held_next =
        ap (λ (l : List Slot). member sdid (open_sdids L l)) (drop-cons slots i 0 h ∙ ap (λ (n : ℕ). get_or slots i 0 ∷ drop n slots) (sym (add-one i)))
        ∙ held_step (get_or slots i 0) (drop (i + 1) slots)

    pub held_here : holds L (get_or slots i 0) sdid ≡ true → member sdid (open_sdids L (drop i slots)) ≡ true
    held_here e = held_next ∙ ap (λ (b : Bool). b || member sdid (open_sdids L (drop (i + 1) slots))) e

    pub held_later : holds L (get_or slots i 0) sdid ≡ false → member sdid (open_sdids L (drop i slots)) ≡ member sdid (open_sdids L (drop (i + 1) slots))
    held_later e = held_next ∙ ap (λ (b : Bool). b || member sdid (open_sdids L (drop (i + 1) slots))) e

  pub held_by_none : (slots : List Slot) (i : ℕ) → length slots ≤ i → member sdid (open_sdids L (drop i slots)) ≡ false
  unfolding open_registers member
  held_by_none slots i h = ap (λ (l : List Slot). member sdid (open_sdids L l)) (drop_of_length-le slots h)

-- ---- a slot that passes is one of the eight, and an SDID that passes has six bits

pub slot_low : (s : ℕ) (b : Bool) → (not (ltb s slot_count) || b) ≡ false → s < slot_count
slot_low s b h = ltb-true s slot_count (not-false-true _ (or_false (not (ltb s slot_count)) b h).0)

pub sdid_low : (sdid : ℕ) (b : Bool) → (ltb max_sdid sdid || b) ≡ false → sdid < suc max_sdid
sdid_low sdid b h = omega (arith, ltb-false max_sdid sdid (or_false (ltb max_sdid sdid) b h).0)

-- ---- a page zeroed word by word

-- the words from word i of the n words from at on
unfoldable pub zero_rest : ℕ → List ℕ → ℕ → ℕ → List ℕ
zero_rest n m at i = sets m (at + i) (replicate (n - i) 0)

module _ (n : ℕ) (m : List ℕ) (at : ℕ) where
  pub rest_all : sets m at (replicate n 0) ≡ zero_rest n m at 0
  unfolding zero_rest
  rest_all = let e : n ≡ n - 0 = omega arith in ap₂ (λ (k c : ℕ). sets m k (replicate c 0)) (sym (add-zero at)) e

  pub rest_next : (i : ℕ) → i < n → zero_rest n m at i ≡ zero_rest n (set m (at + i) 0) at (i + 1)
  unfolding zero_rest
  rest_next i h =
      let e : n - i ≡ suc (n - (i + 1)) = omega arith in
      let z : suc (at + i) ≡ at + (i + 1) = omega arith in
      ap (λ (k : ℕ). sets m (at + i) (replicate k 0)) e ∙ ap (λ (k : ℕ). sets (set m (at + i) 0) k (replicate (n - (i + 1)) 0)) z

  pub rest_none : (i : ℕ) → n ≤ i → zero_rest n m at i ≡ m
  unfolding zero_rest
  rest_none i h = let e : n - i ≡ 0 = omega arith in ap (λ (k : ℕ). sets m (at + i) (replicate k 0)) e
