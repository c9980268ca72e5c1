-- One field of an L1 entry: what it finds is one of four permissions, and in an entry without a reserved bit its own digit.
use mathlib.Core.Path.{◌≡◌, ap}
use mathlib.Core.Bool.{true}
use Prim.Native.Nat.{ℕ, ◌<◌}
use native.Mathlib.Nat.{mod-lt, mod-eq_of_lt}
use native.Mathlib.Omega.{arith}
use lib.Dec.{ltb, lit<}
use borrow.Author.Tests.{ltb-true}
use Rattle.model.specs.Layout.{Layout}
use Rattle.model.specs.Numbers.{digit}
use Rattle.model.specs.Entry.{clean, field_of, perm}
use Rattle.model.specs.Forms.{perm_of}
use Rattle.laws.proofs.Choices.{split}
use Rattle.laws.proofs.Every.{every_in}

pub field_small : (L : Layout) (w i : ℕ) → perm_of (field_of L w i) < 4
unfolding perm_of field_of
field_small L w i = split (clean L w) (λ z. rw z (mod-lt (digit 16 w i) (lit< tt))) (λ z. rw z (omega arith))

field_low : (L : Layout) (w i : ℕ) → i < L.fields → clean L w ≡ true → digit 16 w i < 4
unfolding clean
field_low L w i h c = ltb-true _ _ (every_in (λ k. ltb (digit 16 w k) 4) L.fields 0 c i (omega arith) (omega arith))

pub field_clean : (L : Layout) (w i : ℕ) → i < L.fields → clean L w ≡ true → field_of L w i ≡ perm (digit 16 w i)
unfolding field_of
field_clean L w i h c = rw c (ap perm (mod-eq_of_lt (field_low L w i h c)))
