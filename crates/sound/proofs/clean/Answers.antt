-- `sound::clean` meets its contract: the words of a page, gathered, have no reserved bit exactly when each is clean.
use mathlib.Core.Path.{◌≡◌, refl, sym, ap, ◌∙◌}
use mathlib.Core.Bool.{Bool, true, ◌&&◌}
use Prim.Native.Nat.{ℕ, ◌+◌, ◌-◌}
use native.Mathlib.Omega.{arith}
use lib.Bits.{bit_and, bit_or}
use lib.Dec.{eqb}
use lib.ListN.{get_or}
use Rattle.model.specs.Entry.{clean}
use Rattle.model.specs.Numbers.{every}
use Rattle.laws.proofs.Choices.{and-alone}
use Rattle.laws.proofs.Every.{every_cong}
use Rattle.laws.proofs.Reserved.{clean_by_mask, gathered, reserved}
use Rattle.scan.proofs.Loops.{part_every}
use Rattle.table.specs.Board.{board}
use Rattle.sound.proofs.clean.Goals as goal

-- no reserved bit is set
abbrev unset : ℕ → Bool
unset w = eqb (bit_and w (reserved board)) 0

both : (a b : ℕ) → eqb (bit_and (bit_or a b) (reserved board)) 0 ≡ (eqb (bit_and a (reserved board)) 0 && eqb (bit_and b (reserved board)) 0)
both a b =
    sym (and-alone (eqb (bit_and (bit_or a b) (reserved board)) 0))
    ∙ sym (gathered board a b true)
    ∙ ap (λ (t : Bool). eqb (bit_and a (reserved board)) 0 && t) (and-alone (clean board b) ∙ sym (clean_by_mask board b))

pub returns : goal.returns
returns c =
    let a = c.args in
    let m = a.words.now in
    let n : a.at + board.words - a.at ≡ board.words = omega arith in
    c.gathered.ensures unset refl both
    ∙ part_every m a.at (a.at + board.words) (omega arith, c.requires) unset
    ∙ ap (λ (k : ℕ). every (λ i. unset (get_or m (a.at + i) 0)) k 0) n
    ∙ every_cong (λ i. unset (get_or m (a.at + i) 0)) (λ i. clean board (get_or m (a.at + i) 0)) board.words 0 (λ i lo hi. clean_by_mask board (get_or m (a.at + i) 0))
