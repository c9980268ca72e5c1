-- A range of whole pages covers a block, misses it, or has an end in it. It has two ends.
use mathlib.Core.Path.{◌≡◌}
use mathlib.Core.Bool.{true, false}
use mathlib.Core.Logic.{◌≢◌, ◌⊎◌, inl, inr}
use Prim.Native.Nat.{ℕ, ◌+◌, ◌*◌, ◌/◌, ◌≤◌, ◌<◌}
use native.Mathlib.Omega.{arith}
use lib.Dec.{leb, ltb}
use borrow.Author.Tests.{ltb-true, ltb-false, lt-ltb, le-ltb, le-leb, lt-leb}
use Rattle.model.specs.Frame.{Frame}
use Rattle.model.specs.Walk.{pn2}
use Rattle.model.specs.Forms.{Request, in_range}
use Rattle.laws.proofs.Choices.{and_both, split}
use Rattle.theory.proofs.Ranges.{GoodRange}

module _ (F : Frame) (q : Request) (w : GoodRange F q) where
  -- the blocks of the range's two ends
  abbrev pub low_end : ℕ
  low_end = pn2 (q.start / 4096)

  abbrev pub high_end : ℕ
  high_end = pn2 ((q.start + q.size) / 4096)

  in_range_lem : (n : ℕ) → q.start / 4096 ≤ n → n < (q.start + q.size) / 4096 → in_range q n ≡ true
  unfolding in_range
  in_range_lem n l u = and_both (le-leb q.start (n * 4096) (omega arith)) (lt-ltb (n * 4096) (q.start + q.size) (omega arith))

  out_low : (n : ℕ) → n < q.start / 4096 → in_range q n ≡ false
  unfolding in_range
  out_low n u = rw (lt-leb q.start (n * 4096) (omega arith))

  out_high : (n : ℕ) → (q.start + q.size) / 4096 ≤ n → in_range q n ≡ false
  unfolding in_range
  out_high n l =
      split (leb q.start (n * 4096)) (λ z. rw (z, le-ltb (n * 4096) (q.start + q.size) (omega arith))) (λ z. rw z)

  pub one_side : (b : ℕ) → b ≢ low_end → b ≢ high_end → ((n : ℕ) → pn2 n ≡ b → in_range q n ≡ true) ⊎ ((n : ℕ) → pn2 n ≡ b → in_range q n ≡ false)
  unfolding pn2
  one_side b nl nr =
      split (ltb low_end b)
      (λ z. let l : low_end < b = ltb-true low_end b z in
      split (ltb high_end b)
      (λ y. let r : high_end < b = ltb-true high_end b y in inr (λ n bb. out_high n (omega arith)))
      (λ y. let r : b ≤ high_end = ltb-false high_end b y in inl (λ n bb. in_range_lem n (omega arith) (omega arith))))
      (λ z. let l : b ≤ low_end = ltb-false low_end b z in inr (λ n bb. out_low n (omega arith)))
