-- `apart::crowd::slot_entry` meets its contract: an empty slot, and one whose root is lent.
use mathlib.Core.Path.{◌≡◌, ap, ◌∙◌}
use mathlib.Core.Bool.{true, not}
use native.Mathlib.Omega.{arith}
use borrow.Author.Tests.{ne_eqb}
use Rattle.model.specs.Frame.{lent}
use Rattle.model.specs.Sound.{is_open}
use Rattle.sharing.specs.Crowds.{entry_of_slot}
use Rattle.table.specs.Board.{frame_of}
use Rattle.apart.proofs.crowd.slot_entry.Goals as goal
use Rattle.apart.proofs.crowd.slot_entry.Goals.{Else-register-eq0}

open_here : (c : Else-register-eq0) → is_open c.args.register ≡ true
unfolding is_open
open_here c = ap not (ne_eqb _ 0 c.if-register-eq0.false)

pub returns-then-register-eq0 : goal.returns-then-register-eq0
unfolding entry_of_slot is_open
returns-then-register-eq0 c = (rw c.if-register-eq0.true, omega arith)

pub entry_at-requires : goal.entry_at-requires
entry_at-requires c =
    let a = c.args in
    (c.requires.0, ap (lent (frame_of a.f a.words.now)) c.ppn.ensures.0 ∙ c.requires.1 (open_here (goal.at.entry_at-requires c).Else-register-eq0))

pub returns : goal.returns
unfolding entry_of_slot
returns c = (rw (open_here (goal.at.returns c).Else-register-eq0, ← c.ppn.ensures.0) c.entry_at.ensures.0, c.entry_at.ensures.1)
