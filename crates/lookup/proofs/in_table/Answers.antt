-- `lookup::in_table` meets its contract: the entry is that of pn[1], and the field that of pn[0].
use mathlib.Core.Path.{◌≡◌, sym, ap, ap₂, ◌∙◌}
use mathlib.Core.Bool.{true, false}
use Prim.Native.Nat.{ℕ}
use Rattle.model.specs.Entry.{field_of}
use Rattle.model.specs.Frame.{lent, word_at}
use Rattle.model.specs.Walk.{found}
use Rattle.table.specs.Board.{board, frame_of}
use Rattle.laws.proofs.FrameNumbers.{word_at_lem}
use Rattle.lookup.proofs.in_table.Goals as goal

pub returns-then-is_lent : goal.returns-then-is_lent
unfolding found
returns-then-is_lent c = let a = c.args in
    let here : lent (frame_of a.f a.words.now) a.table.0 ≡ true = sym c.is_lent.ensures ∙ c.if-is_lent.true in
    rw here
    (c.field_found.ensures
    ∙ ap (λ (w : ℕ). field_of board w c.pn0.result) (word_at_lem _ _ _ _ _ c.page_at.ensures.0)
    ∙ ap₂ (λ (i j : ℕ). field_of board (word_at (frame_of a.f a.words.now) a.words.now a.table.0 i) j) c.pn1.ensures.0 c.pn0.ensures.0)

pub returns : goal.returns
unfolding found
returns c = let a = c.args in
    let none : lent (frame_of a.f a.words.now) a.table.0 ≡ false = sym c.is_lent.ensures ∙ c.if-is_lent.false in
    rw none
