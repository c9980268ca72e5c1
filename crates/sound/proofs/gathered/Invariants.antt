-- `sound::gathered` meets its contract: the invariant: what was gathered, and the words that are left, decide the whole, by each such test.
use mathlib.Core.Path.{◌≡◌}
use mathlib.Core.Bool.{Bool, true, ◌&&◌}
use Prim.Native.Nat.{ℕ, ◌-◌}
use lib.Bits.{bit_or}
use lib.ListN.{length, get_or}
use Rattle.model.specs.Numbers.{every}
use Rattle.sound.proofs.gathered.Given as goal

abbrev pub invariant-loop-word : goal.invariant-loop-word
invariant-loop-word l =
    (test : ℕ → Bool) → test 0 ≡ true → ((a b : ℕ) → test (bit_or a b) ≡ (test a && test b))
    → every (λ i. test (get_or l.words i 0)) (length l.words) 0 ≡ (test l.all && every (λ i. test (get_or l.words i 0)) (length l.words - l.word-index) l.word-index)
