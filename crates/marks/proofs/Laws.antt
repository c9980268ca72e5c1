-- What is said of marks: one that is taken away leaves all the others as they were; and where the marks of a word lie.
use Rattle.std.specs.Prelude.{if◌then◌else◌}
use mathlib.Core.Path.{◌≡◌, refl, sym, ap, ap₂, ◌∙◌, subst}
use mathlib.Core.Bool.{Bool, true, false, not, ◌&&◌, false≢true}
use mathlib.Core.List.{List}
use Prim.Native.Nat.{ℕ, ◌+◌, ◌-◌, ◌*◌, ◌/◌, ◌%◌, ◌≤◌, ◌<◌, ◌^◌}
use native.Mathlib.Nat.{zero-add}
use native.Mathlib.Omega.{arith}
use lib.Dec.{eqb, ltb}
use lib.ListN.{length, get_or, set, get_or-eq_default}
use lib.Seq.{get_or-set_same, get_or-set_other}
use borrow.Author.Tests.{eqb-true, eqb-false, eq-eqb, ne_eqb, ltb-true, ltb-false}
use Rattle.model.specs.Numbers.{every, digit}
use Rattle.laws.proofs.BinaryDigits.{none_set, taken_digit, other_digit}
use Rattle.laws.proofs.Every.{every_at}
use Rattle.marks.specs.Marks.{mark_at, unmark, all_marks}

-- ---- the marks of a word

mark_in : (marks : List ℕ) (i j k : ℕ) → k ≡ 64 * i + j → j < 64 → mark_at marks k ≡ eqb (digit 2 (get_or marks i 0) j) 1
unfolding mark_at
mark_in marks i j k e h =
    let word : k / 64 ≡ i = omega arith in
    let bit : k % 64 ≡ j = omega arith in
    ap₂ (λ (x y : ℕ). eqb (digit 2 (get_or marks x 0) y) 1) word bit

-- a mark whose bit is not set does not stand
clear_bit : (marks : List ℕ) (i j k : ℕ) → k ≡ 64 * i + j → j < 64 → digit 2 (get_or marks i 0) j ≡ 0 → mark_at marks k ≡ false
clear_bit marks i j k e h z = mark_in marks i j k e h ∙ ap (λ (x : ℕ). eqb x 1) z

pub clear_word : (marks : List ℕ) (i k : ℕ) → get_or marks i 0 ≡ 0 → 64 * i ≤ k → k < 64 * i + 64 → mark_at marks k ≡ false
clear_word marks i k z lo hi =
    clear_bit marks i (k - 64 * i) k (omega arith) (omega arith) (ap (λ (w : ℕ). digit 2 w (k - 64 * i)) z ∙ none_set (k - 64 * i))

-- the lowest mark of a word that has one, j
module _ (marks : List ℕ) (i j : ℕ) (low : j < 64) where
  pub lowest_stands : digit 2 (get_or marks i 0) j ≡ 1 → mark_at marks (64 * i + j) ≡ true
  lowest_stands h = mark_in marks i j _ refl low ∙ ap (λ (x : ℕ). eqb x 1) h

  pub none_below : ((k : ℕ) → k < j → digit 2 (get_or marks i 0) k ≡ 0) → (k : ℕ) → 64 * i ≤ k → k < 64 * i + j → mark_at marks k ≡ false
  none_below h k lo hi = clear_bit marks i (k - 64 * i) k (omega arith) (omega arith) (h (k - 64 * i) (omega arith))

-- ---- one mark taken away

-- a mark that stands is a bit of a word that there is
mark_set : (marks : List ℕ) (i : ℕ) → mark_at marks i ≡ true → (digit 2 (get_or marks (i / 64) 0) (i % 64) ≡ 1) × (i / 64 < length marks)
unfolding mark_at
mark_set marks i h = (eqb-true _ 1 h, go (ltb (i / 64) (length marks)) refl)
  where
    go : (b : Bool) → ltb (i / 64) (length marks) ≡ b → i / 64 < length marks
    go true e = ltb-true _ _ e
    go false e =
        let past : get_or marks (i / 64) 0 ≡ 0 = get_or-eq_default marks 0 (ltb-false _ _ e) in
        absurd (false≢true (ap (λ (x : ℕ). eqb x 1) (sym (none_set (i % 64))) ∙ ap (λ (x : ℕ). eqb (digit 2 x (i % 64)) 1) (sym past) ∙ h))

-- a mark that stands, taken away: it stands no more, and the others as they did
unmark_set : (marks : List ℕ) (i j : ℕ) → mark_at marks i ≡ true
    → mark_at (set marks (i / 64) (get_or marks (i / 64) 0 - 2 ^ (i % 64))) j ≡ (not (eqb i j) && mark_at marks j)
unfolding mark_at
unmark_set marks i j h = go (eqb (j / 64) (i / 64)) refl (eqb (j % 64) (i % 64)) refl
  where
    w : ℕ
    w = get_or marks (i / 64) 0

    at : (digit 2 w (i % 64) ≡ 1) × (i / 64 < length marks)
    at = mark_set marks i h

    same_word : j / 64 ≡ i / 64 → get_or (set marks (i / 64) (w - 2 ^ (i % 64))) (j / 64) 0 ≡ w - 2 ^ (i % 64)
    same_word e = ap (λ (x : ℕ). get_or (set marks (i / 64) (w - 2 ^ (i % 64))) x 0) e ∙ get_or-set_same marks (i / 64) _ 0 at.1

    other : (i ≡ j → ⊥) → (not (eqb i j) && mark_at marks j) ≡ mark_at marks j
    other ne = ap (λ (b : Bool). not b && mark_at marks j) (ne_eqb i j ne)

    go : (a : Bool) → eqb (j / 64) (i / 64) ≡ a → (b : Bool) → eqb (j % 64) (i % 64) ≡ b
        → mark_at (set marks (i / 64) (w - 2 ^ (i % 64))) j ≡ (not (eqb i j) && mark_at marks j)
    go true p true q =
        let e : j / 64 ≡ i / 64 = eqb-true _ _ p in
        let f : j % 64 ≡ i % 64 = eqb-true _ _ q in
        let ij : i ≡ j = omega (arith, e, f) in
        ap₂ (λ (x y : ℕ). eqb (digit 2 x y) 1) (same_word e) f
        ∙ ap (λ (x : ℕ). eqb x 1) (taken_digit (i % 64) w at.0)
        ∙ ap (λ (b : Bool). not b && mark_at marks j) (sym (eq-eqb i j ij))
    go true p false q =
        let e : j / 64 ≡ i / 64 = eqb-true _ _ p in
        let ne : j % 64 ≡ i % 64 → ⊥ = eqb-false _ _ q in
        ap (λ (x : ℕ). eqb (digit 2 x (j % 64)) 1) (same_word e)
        ∙ ap (λ (x : ℕ). eqb x 1) (other_digit (i % 64) w (j % 64) at.0 ne)
        ∙ ap (λ (x : ℕ). eqb (digit 2 (get_or marks x 0) (j % 64)) 1) (sym e)
        ∙ sym (other (λ ij. ne (ap (λ (x : ℕ). x % 64) (sym ij))))
    go false p b q =
        let ne : j / 64 ≡ i / 64 → ⊥ = eqb-false _ _ p in
        ap (λ (x : ℕ). eqb (digit 2 x (j % 64)) 1) (get_or-set_other marks (i / 64) (j / 64) _ 0 ne)
        ∙ sym (other (λ ij. ne (ap (λ (x : ℕ). x / 64) (sym ij))))

pub unmark_others : (marks : List ℕ) (i j : ℕ) → mark_at (unmark marks i) j ≡ (not (eqb i j) && mark_at marks j)
unfolding unmark
unmark_others marks i j = go (mark_at marks i) refl
  where
    gone : mark_at marks i ≡ false → (b : Bool) → eqb i j ≡ b → mark_at marks j ≡ (not b && mark_at marks j)
    gone h true e = ap (mark_at marks) (sym (eqb-true i j e)) ∙ h
    gone h false e = refl

    go : (b : Bool) → mark_at marks i ≡ b
        → mark_at (if b then set marks (i / 64) (get_or marks (i / 64) 0 - 2 ^ (i % 64)) else marks) j ≡ (not (eqb i j) && mark_at marks j)
    go true h = unmark_set marks i j h
    go false h = gone h (eqb i j) refl

-- ---- all marks

computed : every (mark_at all_marks) 256 0 ≡ true
unfolding every mark_at digit
computed = refl

pub all_stand : (i : ℕ) → i < 256 → mark_at all_marks i ≡ true
all_stand i h = subst (λ (k : ℕ). mark_at all_marks k ≡ true) (zero-add i) (every_at (mark_at all_marks) 256 0 computed i h)
