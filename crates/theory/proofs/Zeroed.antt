-- A lent page that is zeroed, entry by entry: its entries are zero, and no other entry of a lent page changes.
use mathlib.Core.Path.{◌≡◌, refl, ap, ◌∙◌}
use mathlib.Core.Logic.{◌≢◌}
use mathlib.Core.Bool.{true}
use mathlib.Core.List.{List}
use Prim.Native.Nat.{ℕ, zero, suc, ◌+◌, ◌*◌, ◌-◌, ◌≤◌, ◌<◌}
use native.Mathlib.Omega.{arith}
use lib.Dec.{eqb}
use lib.ListN.{length, replicate, set}
use lib.Seq.{sets, length-sets}
use borrow.Author.Tests.{eqb-true, eqb-false}
use Rattle.model.specs.Frame.{Frame, index_of, lent, word_at}
use Rattle.laws.proofs.Choices.{split}
use Rattle.theory.proofs.Memory.{put, put_length, put_other_entry, put_other_page, put_same}

module _ (F : Frame) (p : ℕ) (lp : lent F p ≡ true) where
  -- the memory with the n entries of page p from entry s on set to zero
  unfoldable pub zero_from : ℕ → ℕ → List ℕ → List ℕ
  zero_from n s m = sets m (index_of F p s) (replicate n 0)

  zero_step : (n s : ℕ) (m : List ℕ) → zero_from (suc n) s m ≡ zero_from n (suc s) (put F m p s 0)
  unfolding zero_from put index_of
  zero_step n s m = ap (λ (k : ℕ). sets (set m ((p - F.first) * F.layout.words + s) 0) k (replicate n 0)) (omega arith)

  zero_none : (s : ℕ) (m : List ℕ) → zero_from 0 s m ≡ m
  unfolding zero_from
  zero_none s m = refl

  pub zero_length : (n s : ℕ) (m : List ℕ) → length (zero_from n s m) ≡ length m
  unfolding zero_from
  zero_length n s m = length-sets m (index_of F p s) (replicate n 0)

  pub zero_other_page : (n s : ℕ) (m : List ℕ) (x i : ℕ) → s + n ≤ F.layout.words → x ≢ p → lent F x ≡ true → i < F.layout.words
      → word_at F (zero_from n s m) x i ≡ word_at F m x i
  zero_other_page zero s m x i h ne lx u = ap (λ (k : List ℕ). word_at F k x i) (zero_none s m)
  zero_other_page (suc n) s m x i h ne lx u =
      ap (λ (k : List ℕ). word_at F k x i) (zero_step n s m)
      ∙ zero_other_page n (suc s) (put F m p s 0) x i (omega arith) ne lx u
      ∙ put_other_page F m p s 0 x i ne lp lx (omega arith) u

  zero_below : (n s : ℕ) (m : List ℕ) (i : ℕ) → s + n ≤ F.layout.words → i < s → word_at F (zero_from n s m) p i ≡ word_at F m p i
  zero_below zero s m i h l = ap (λ (k : List ℕ). word_at F k p i) (zero_none s m)
  zero_below (suc n) s m i h l =
      ap (λ (k : List ℕ). word_at F k p i) (zero_step n s m)
      ∙ zero_below n (suc s) (put F m p s 0) i (omega arith) (omega arith)
      ∙ put_other_entry F m p s 0 i (λ z. omega (arith, z)) lp (omega arith) (omega arith)

  pub zero_here : (n s : ℕ) (m : List ℕ) (i : ℕ) → length m ≡ F.pages * F.layout.words → s + n ≤ F.layout.words → s ≤ i → i < s + n
      → word_at F (zero_from n s m) p i ≡ 0
  zero_here zero s m i size h l u = absurd (omega arith)
  zero_here (suc n) s m i size h l u =
      ap (λ (k : List ℕ). word_at F k p i) (zero_step n s m)
      ∙ split (eqb i s)
      (λ z. let same : i ≡ s = eqb-true i s z in
      zero_below n (suc s) (put F m p s 0) i (omega arith) (omega arith)
      ∙ ap (word_at F (put F m p s 0) p) same ∙ put_same F m p s 0 size lp (omega arith))
      (λ z. let ne : i ≢ s = eqb-false i s z in zero_here n (suc s) (put F m p s 0) i (put_length F m p s 0 ∙ size) (omega arith) (omega arith) (omega arith))
