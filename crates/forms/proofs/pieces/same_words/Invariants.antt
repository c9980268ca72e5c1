-- `forms::pieces::same_words` meets its contract: the words that are left decide the whole.
use mathlib.Core.Path.{◌≡◌}
use Prim.Native.Nat.{◌+◌, ◌-◌}
use lib.Dec.{eqb}
use lib.ListN.{get_or}
use Rattle.table.specs.Board.{PIECE-WORDS}
use Rattle.model.specs.Numbers.{every}
use Rattle.forms.proofs.pieces.same_words.Given as goal

abbrev pub invariant-loop-word : goal.invariant-loop-word
invariant-loop-word l = every (λ k. eqb (get_or l.words k 0) l.want) PIECE-WORDS l.at ≡ every (λ k. eqb (get_or l.words k 0) l.want) (PIECE-WORDS - l.word-index) (l.at + l.word-index)
