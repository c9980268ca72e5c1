-- Entries of the "1G" types: they name no page, and many are told at once, gathered by `|`.
use mathlib.Core.Path.{◌≡◌, refl, sym, ap, ap₂, ◌∙◌}
use mathlib.Core.Bool.{Bool, true, false, ◌&&◌}
use mathlib.Core.List.{List}
use Prim.Native.Nat.{ℕ, zero, suc, ◌+◌, ◌/◌, ◌%◌, ◌^◌, ◌≤◌}
use native.Mathlib.Omega.{arith}
use lib.Bits.{bit_or, or_lt, or_shr, or_mod, or_add_and, and_le_l, and_le_r}
use lib.Dec.{eqb, ltb}
use lib.ListN.{get_or}
use borrow.Author.Tests.{eqb-true, eqb-false, eq-eqb, ne_eqb, ltb-true, ltb-false, lt-ltb, le-ltb}
use Rattle.model.specs.Numbers.{every}
use Rattle.model.specs.Entry.{Entry}
use Rattle.model.specs.Frame.{Frame}
use Rattle.model.specs.Layout.{Layout}
use Rattle.laws.proofs.Choices.{and_true}
use Rattle.laws.proofs.Decoded.{flat_word_lem}
use Rattle.laws.proofs.Every.{every_step}
use Rattle.marks.specs.Marks.{Marks}
use Rattle.scan.specs.Scan.{marked, then_scan, scan_run, flat_word, entry_step, word_step}

-- `|` is no less than either, zero where both are, and below 4 where both are
or_above : (a b : ℕ) → (a ≤ bit_or a b) × (b ≤ bit_or a b)
or_above a b = (omega (arith, or_add_and a b, and_le_r a b), omega (arith, or_add_and a b, and_le_l a b))

or_zero : (a b : ℕ) → eqb (bit_or a b) 0 ≡ (eqb a 0 && eqb b 0)
or_zero a b = go (eqb a 0) refl (eqb b 0) refl
  where
    go : (s : Bool) → eqb a 0 ≡ s → (t : Bool) → eqb b 0 ≡ t → eqb (bit_or a b) 0 ≡ (s && t)
    go true p true q = eq-eqb (bit_or a b) 0 (ap₂ bit_or (eqb-true a 0 p) (eqb-true b 0 q))
    go true p false q = let ne = eqb-false b 0 q in ne_eqb (bit_or a b) 0 (λ e. ne (omega (arith, (or_above a b).1)))
    go false p t q = let ne = eqb-false a 0 p in ne_eqb (bit_or a b) 0 (λ e. ne (omega (arith, (or_above a b).0)))

or_below : (a b : ℕ) → ltb (bit_or a b) 4 ≡ (ltb a 4 && ltb b 4)
or_below a b = go (ltb a 4) refl (ltb b 4) refl
  where
    go : (s : Bool) → ltb a 4 ≡ s → (t : Bool) → ltb b 4 ≡ t → ltb (bit_or a b) 4 ≡ (s && t)
    go true p true q = lt-ltb (bit_or a b) 4 (or_lt 2 a b (ltb-true a 4 p) (ltb-true b 4 q))
    go true p false q = le-ltb (bit_or a b) 4 (omega (arith, ltb-false b 4 q, (or_above a b).1))
    go false p t q = le-ltb (bit_or a b) 4 (omega (arith, ltb-false a 4 p, (or_above a b).0))

swap : (a b c d : Bool) → ((a && b) && (c && d)) ≡ ((a && c) && (b && d))
swap true true c d = refl
swap true false true d = refl
swap true false false d = refl
swap false b c d = refl

-- two words gathered are as one of them exactly where each is one
pub flat_both : (L : Layout) (a b : ℕ) → flat_word L (bit_or a b) ≡ (flat_word L a && flat_word L b)
unfolding flat_word
flat_both L a b =
    let k = L.info_bits in
    ap₂ (λ (x y : ℕ). ltb x 4 && eqb y 0) (or_shr a b k) (or_mod a b k)
    ∙ ap₂ ◌&&◌ (or_below (a / 2 ^ k) (b / 2 ^ k)) (or_zero (a % 2 ^ k) (b % 2 ^ k))
    ∙ swap (ltb (a / 2 ^ k) 4) (ltb (b / 2 ^ k) 4) (eqb (a % 2 ^ k) 0) (eqb (b % 2 ^ k) 0)

-- a run of them leaves the marks as they are
pub flat_run : (F : Frame) (m : List ℕ) (r n s : ℕ) (k : Marks) → every (λ i. flat_word F.layout (get_or m (r + i) 0)) n s ≡ true
    → scan_run (word_step F m r) k n s ≡ marked k
unfolding scan_run flat_word
flat_run F m r zero s k flats = refl
flat_run F m r (suc n) s k flats =
    let L = F.layout in
    let w = get_or m (r + s) 0 in
    let both = and_true (flat_word L w) (every (λ i. flat_word L (get_or m (r + i) 0)) n (suc s)) (sym (every_step (λ i. flat_word L (get_or m (r + i) 0)) n s) ∙ flats) in
    let here = and_true (ltb (w / 2 ^ L.info_bits) 4) (eqb (w % 2 ^ L.info_bits) 0) both.0 in
    ap (λ (e : Entry). then_scan (entry_step F m k e) (λ o. scan_run (word_step F m r) o n (suc s)))
    (sym (flat_word_lem L w (ltb-true _ _ here.0) (eqb-true _ _ here.1)))
    ∙ flat_run F m r n (suc s) k both.1
