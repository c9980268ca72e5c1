-- `sound::gathered` meets its contract: the invariant: what was gathered, and the words that are left, decide the whole, by each such test.
use mathlib.Core.Path.{◌≡◌, sym, ap, ◌∙◌}
use mathlib.Core.Bool.{Bool, true, ◌&&◌}
use Prim.Native.Nat.{ℕ, ◌+◌, ◌-◌}
use native.Mathlib.Omega.{arith}
use lib.Bits.{bit_or}
use lib.ListN.{length, get_or}
use Rattle.model.specs.Numbers.{every}
use Rattle.laws.proofs.Choices.{and-alone, and_assoc}
use Rattle.laws.proofs.Every.{every_next, every_none}
use Rattle.sound.proofs.gathered.Goals as goal

-- what is gathered of no word passes, so that the words decide
begun : (test : ℕ → Bool) (t : Bool) (n : ℕ) → t ≡ true → every test n 0 ≡ (t && every test (n - 0) 0)
begun test t n z = let e : n ≡ n - 0 = omega arith in ap (λ (k : ℕ). every test k 0) e ∙ sym (ap (λ (b : Bool). b && every test (n - 0) 0) z)

pub loop-word-init : goal.loop-word-init
loop-word-init c = λ test zero both. begun _ _ _ zero

pub loop-word-preserved : goal.loop-word-preserved
loop-word-preserved c =
    λ test zero both.
    let m = c.args.words.now in
    let i = c.loop-word.word-index in
    let rest : Bool = every (λ k. test (get_or m k 0)) (length m - (i + 1)) (i + 1) in
    c.loop-word.invariant test zero both
    ∙ ap (λ (b : Bool). test c.loop-word.all && b) (every_next (λ k. test (get_or m k 0)) (length m) i c.loop-word-test.true)
    ∙ sym (and_assoc (test c.loop-word.all) (test (get_or m i 0)) rest)
    ∙ ap (λ (b : Bool). b && rest) (sym (both c.loop-word.all (get_or m i 0)))
    ∙ ap (λ (x : ℕ). test (bit_or c.loop-word.all x) && rest) (sym c.wide-all.ensures.0)

pub returns : goal.returns
returns c =
    λ test zero both.
    sym (c.loop-word.invariant test zero both
    ∙ ap (λ (b : Bool). test c.loop-word.all && b) (every_none (λ k. test (get_or c.args.words.now k 0)) (length c.args.words.now) c.loop-word.word-index (omega arith))
    ∙ and-alone (test c.loop-word.all))
