-- `forms::pieces::same_words` meets its contract: the words that are left decide the whole.
use mathlib.Core.Path.{◌≡◌, sym, ap, ◌∙◌}
use mathlib.Core.List.{List}
use Prim.Native.Nat.{ℕ, ◌+◌, ◌-◌, ◌<◌}
use native.Mathlib.Omega.{arith}
use lib.Dec.{eqb}
use lib.ListN.{get_or, take, drop, length}
use borrow.Author.Tests.{eq-eqb, ne_eqb}
use Rattle.std.proofs.lemmas.List.{get_or-take, get_or-drop, length-take, length-drop}
use Rattle.table.specs.Board.{PIECE-WORDS}
use Rattle.shapes.proofs.Fields.{every_next, every_stop, every_none}
use Rattle.forms.proofs.pieces.same_words.Goals as goal

-- word i of the piece from at on
module _ (m : List ℕ) (at i : ℕ) (h : i < length (take (at + PIECE-WORDS - at) (drop at m))) where
  inside : i < PIECE-WORDS
  inside = omega (arith, length-take {A = ℕ})

  item : get_or m (at + i) 0 ≡ get_or (take (at + PIECE-WORDS - at) (drop at m)) i 0
  item = sym (get_or-take _ _ i 0 (omega (arith, inside)) ∙ get_or-drop at m i 0)

pub returns-then-word-want : goal.returns-then-word-want
returns-then-word-want c =
    let a = c.args in
    let i = c.loop-word.word-index in
    sym (c.loop-word.invariant
    ∙ every_stop _ PIECE-WORDS a.at i (inside a.words.now a.at i c.loop-word-test.true)
    (ap (λ (w : ℕ). eqb w a.want) (item a.words.now a.at i c.loop-word-test.true) ∙ ne_eqb _ _ c.if-word-want.true))

pub loop-word-preserved : goal.loop-word-preserved
loop-word-preserved c =
    let a = c.args in
    let i = c.loop-word.word-index in
    c.loop-word.invariant
    ∙ every_next _ PIECE-WORDS a.at i (inside a.words.now a.at i c.loop-word-test.true)
    (eq-eqb _ _ (item a.words.now a.at i c.loop-word-test.true ∙ c.if-word-want.false))

pub returns : goal.returns
returns c =
    sym (c.loop-word.invariant ∙ every_none _ _ _ (omega (arith, length-take {A = ℕ}, length-drop {A = ℕ})))
