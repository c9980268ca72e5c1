-- `apart::who::table_fault` meets its contract: the first slot that reaches the page, if there is one.
use mathlib.Core.Path.{sym, ap, ◌∙◌}
use mathlib.Core.List.{List, head_d}
use Prim.Native.Nat.{ℕ}
use Rattle.model.specs.Access.{write}
use Rattle.model.specs.Apart.{Separation, apart, table_open, grants}
use Rattle.model.specs.Calls.{slot_at}
use Rattle.model.specs.Entry.{perm}
use Rattle.sharing.proofs.TableFaults.{table_some, table_none}
use Rattle.table.specs.Board.{frame_of}
use Rattle.types.specs.Views.{strength_of}
use Rattle.apart.proofs.who.table_fault.Goals as goal

pub returns-in_default : goal.returns-in_default
unfolding head_d
returns-in_default c =
    let a = c.args in
    let F = frame_of a.f a.words.now in
    sym (ap (λ (l : List Separation). head_d l apart) (table_none F a.words.now a.slots (strength_of a.s) a.page.0 c.requires.1 c.in_default.ensures))

pub returns : goal.returns
unfolding slot_at
returns c =
    let a = c.args in
    let F = frame_of a.f a.words.now in
    ap (table_open a.page.0 c.in-Some.i) (c.writes.ensures ∙ ap (λ (p : ℕ). grants (perm p) write) c.has.ensures)
    ∙ sym (table_some F a.words.now a.slots (strength_of a.s) a.page.0 c.requires.1 c.in-Some.i c.in-Some.ensures.0 c.in-Some.ensures.1).1
