-- `sound::all_flat` meets its contract: the words of a GiB, gathered, are as one of the "1G" types exactly when each is.
use mathlib.Core.Path.{◌≡◌, refl, sym, ap, ◌∙◌}
use mathlib.Core.Bool.{Bool, false, ◌&&◌}
use mathlib.Core.List.{List}
use Prim.Native.Nat.{ℕ, ◌+◌, ◌-◌}
use native.Mathlib.Nat.{add-zero}
use native.Mathlib.Omega.{arith}
use lib.ListN.{get_or}
use Rattle.model.specs.Layout.{gib_blocks}
use Rattle.model.specs.Numbers.{every}
use Rattle.laws.proofs.Every.{every_step}
use Rattle.scan.specs.Scan.{flat_word}
use Rattle.scan.proofs.FlatEntries.{flat_both}
use Rattle.scan.proofs.Loops.{part_every}
use Rattle.table.specs.Board.{board}
use Rattle.sound.proofs.all_flat.Goals as goal

-- the word at place i of the GiB
abbrev test : List ℕ → ℕ → ℕ → Bool
test m at i = flat_word board (get_or m (at + i) 0)

pub returns-then-not-is_flat : goal.returns-then-not-is_flat
returns-then-not-is_flat c =
    let a = c.args in
    let first : test a.words.now a.at 0 ≡ false = ap (λ (n : ℕ). flat_word board (get_or a.words.now n 0)) (add-zero a.at)
    ∙ ap (flat_word board) (sym c.wide.ensures.0) ∙ sym c.is_flat.ensures ∙ c.if-not-is_flat.true in
    sym (every_step (test a.words.now a.at) 31 0 ∙ ap (λ (b : Bool). b && every (test a.words.now a.at) 31 1) first)

pub returns : goal.returns
unfolding flat_word
returns c =
    let a = c.args in
    let m = a.words.now in
    let n : a.at + gib_blocks - a.at ≡ gib_blocks = omega arith in
    c.is_flat-2.ensures
    ∙ c.gathered.ensures (flat_word board) refl (flat_both board)
    ∙ part_every m a.at (a.at + gib_blocks) (omega arith, c.requires) (flat_word board)
    ∙ ap (λ (k : ℕ). every (λ i. flat_word board (get_or m (a.at + i) 0)) k 0) n
