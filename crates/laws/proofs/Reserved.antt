-- The reserved bits of an L1 entry, tested by a mask, and those of many entries, tested at once: `all |= word` and one `&`.
use mathlib.Core.Path.{◌≡◌, refl, sym, ap, ap₂, ◌∙◌, fun_ext}
use mathlib.Core.Bool.{Bool, true, false, ◌&&◌}
use Prim.Native.Nat.{ℕ, zero, suc, ◌+◌, ◌*◌, ◌/◌, ◌%◌, ◌^◌, ◌≤◌, min, max}
use native.Mathlib.Nat.{div-add-mod', div-one, mod-lt, pow-zero, pow-succ', div-div-eq-div-mul}
use native.Mathlib.Omega.{arith}
use lib.Arith.{bin_ind}
use lib.Bits.{bit_and, bit_or, and_step, or_step, and_shr, or_shr, and_block, and_high, and_zero_r, and_le_l, and_le_r, or_add_and}
use lib.Dec.{eqb, ltb, lit<}
use borrow.Author.Tests.{eq-eqb, ne_eqb, eqb-true, eqb-false, lt-ltb, le-ltb}
use Rattle.model.specs.Numbers.{every, digit}
use Rattle.model.specs.Layout.{Layout}
use Rattle.model.specs.Entry.{clean}
use Rattle.laws.proofs.Choices.{split, and_assoc}
use Rattle.laws.proofs.Every.{every_step, every_shift}

-- u is zero exactly when x and y are
eqb_both : (u x y : ℕ) → (u ≡ 0 → (x ≡ 0) × (y ≡ 0)) → (x ≡ 0 → y ≡ 0 → u ≡ 0) → eqb u 0 ≡ (eqb x 0 && eqb y 0)
eqb_both u x y down up = go (eqb x 0) refl (eqb y 0) refl
  where
    go : (s : Bool) → eqb x 0 ≡ s → (t : Bool) → eqb y 0 ≡ t → eqb u 0 ≡ (s && t)
    go true p true q = eq-eqb u 0 (up (eqb-true x 0 p) (eqb-true y 0 q))
    go true p false q = ne_eqb u 0 (λ e. eqb-false y 0 q (down e).1)
    go false p t q = ne_eqb u 0 (λ e. eqb-false x 0 p (down e).0)

-- k digits 0xC
abbrev pub mask : ℕ → ℕ
mask zero = 0
mask (suc k) = mask k * 16 + 12

-- the lowest field, and the others
and_mask : (w b : ℕ) → bit_and w (b * 16 + 12) ≡ bit_and (w / 16) b * 16 + w % 16 / 4 * 4
and_mask w b =
    ap (λ (x : ℕ). bit_and x (b * 16 + 12)) (sym (div-add-mod' w 16))
    ∙ and_block 4 (w / 16) b (w % 16) 12 (mod-lt w (lit< tt)) (lit< tt)
    ∙ ap (λ (x : ℕ). bit_and (w / 16) b * 16 + x) (and_high (w % 16) 2 2)
    ∙ omega arith

digit_first : (w : ℕ) → digit 16 w 0 ≡ w % 16
unfolding digit
digit_first w = ap (λ (k : ℕ). w / k % 16) (pow-zero 16) ∙ ap (λ (k : ℕ). k % 16) (div-one w)

digit_suc : (w n : ℕ) → digit 16 w (suc n) ≡ digit 16 (w / 16) n
unfolding digit
digit_suc w n = ap (λ (k : ℕ). w / k % 16) (pow-succ' 16 n) ∙ ap (λ (k : ℕ). k % 16) (sym (div-div-eq-div-mul w 16 (16 ^ n)))

-- a field's two high bits are zero exactly when it is below 4
low_field : (x : ℕ) → eqb (x / 4) 0 ≡ ltb x 4
low_field x = split (eqb (x / 4) 0) (λ e. e ∙ sym (lt-ltb x 4 (omega (arith, eqb-true (x / 4) 0 e)))) (λ e. e ∙ sym (le-ltb x 4 (high x (eqb-false (x / 4) 0 e))))
  where
    high : (x : ℕ) → (x / 4 ≡ 0 → ⊥) → 4 ≤ x
    high x h = omega arith

fields : (k w : ℕ) → eqb (bit_and w (mask k)) 0 ≡ every (λ i. ltb (digit 16 w i) 4) k 0
unfolding every
fields zero w = ap (λ (x : ℕ). eqb x 0) (and_zero_r w)
fields (suc k) w =
    ap (λ (x : ℕ). eqb x 0) (and_mask w (mask k))
    ∙ eqb_both (bit_and (w / 16) (mask k) * 16 + w % 16 / 4 * 4) (w % 16 / 4) (bit_and (w / 16) (mask k)) (λ e. omega arith) (λ p q. omega arith)
    ∙ ap₂ ◌&&◌ (low_field (w % 16) ∙ ap (λ (x : ℕ). ltb x 4) (sym (digit_first w)))
    (fields k (w / 16)
    ∙ ap (λ (t : ℕ → Bool). every t k 0) (fun_ext (λ i. ap (λ (x : ℕ). ltb x 4) (sym (digit_suc w i))))
    ∙ sym (every_shift (λ i. ltb (digit 16 w i) 4) k 0))
    ∙ sym (every_step (λ i. ltb (digit 16 w i) 4) k 0)

-- the two high bits of each field of an entry
abbrev pub reserved : Layout → ℕ
reserved L = mask L.fields

-- the test of one entry
pub clean_by_mask : (L : Layout) (w : ℕ) → eqb (bit_and w (reserved L)) 0 ≡ clean L w
unfolding clean
clean_by_mask L w = fields L.fields w

-- `&` distributes over `|`
bits : (n b m : ℕ) → min (bit_or n b % 2) (m % 2) ≡ max (bit_and n m % 2) (bit_and b m % 2)
bits n b m = omega (arith, or_step n b, and_step n m, and_step b m)

and_or : (a b m : ℕ) → bit_and (bit_or a b) m ≡ bit_or (bit_and a m) (bit_and b m)
and_or a =
    bin_ind (λ (n : ℕ). (b m : ℕ) → bit_and (bit_or n b) m ≡ bit_or (bit_and n m) (bit_and b m)) (λ b m. refl)
    (λ n ih b m. and_step (bit_or n b) m
    ∙ ap₂ (λ (x y : ℕ). x * 2 + y)
    (ap (λ (x : ℕ). bit_and x (m / 2)) (or_shr n b 1) ∙ ih (b / 2) (m / 2) ∙ ap₂ bit_or (sym (and_shr n m 1)) (sym (and_shr b m 1)))
    (bits n b m)
    ∙ sym (or_step (bit_and n m) (bit_and b m))) a

masked_or : (a b m : ℕ) → eqb (bit_and (bit_or a b) m) 0 ≡ (eqb (bit_and a m) 0 && eqb (bit_and b m) 0)
masked_or a b m =
    eqb_both (bit_and (bit_or a b) m) (bit_and a m) (bit_and b m)
    (λ e. omega (arith, and_or a b m, or_add_and (bit_and a m) (bit_and b m), and_le_l (bit_and a m) (bit_and b m), and_le_r (bit_and a m) (bit_and b m)))
    (λ p q. and_or a b m ∙ ap₂ bit_or p q)

-- one entry more, gathered by `|`: what was gathered and the rest decide the whole
pub gathered : (L : Layout) (a w : ℕ) (rest : Bool)
    → (eqb (bit_and a (reserved L)) 0 && (clean L w && rest)) ≡ (eqb (bit_and (bit_or a w) (reserved L)) 0 && rest)
gathered L a w rest =
    sym (and_assoc (eqb (bit_and a (reserved L)) 0) (clean L w) rest)
    ∙ ap (λ (t : Bool). t && rest) (ap (λ (t : Bool). eqb (bit_and a (reserved L)) 0 && t) (sym (clean_by_mask L w)) ∙ sym (masked_or a w (reserved L)))
