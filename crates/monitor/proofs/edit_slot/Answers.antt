-- `monitor::edit_slot` meets its contract: the refusals of frame, table and slot in their order, and then what `edit_open` leaves.
use Rattle.std.proofs.lemmas.Result.{err_from_is_err_and}
use mathlib.Core.Path.{sym, ◌∙◌}
use Rattle.model.specs.Calls.{refuse}
use Rattle.types.specs.Views.{request_of}
use Rattle.scan.proofs.Admissions.{admitted}
use Rattle.monitor.proofs.EditRefusals.{edit_not_admitted, edit_slot_lem}
use Rattle.table.specs.Board.{frame_of}
use Rattle.monitor.proofs.edit_slot.Goals as goal

pub returns-in_err-admit : goal.returns-in_err-admit
unfolding refuse
returns-in_err-admit c =
    let a = c.args in
    let p = err_from_is_err_and c.from_residual.result c.from_residual.ensures.1 in
    rw (p.1, p.2) (sym (edit_not_admitted (frame_of a.f a.words.now) a.words.now a.slots (request_of a.q) a.limit _ c.in_err-admit.ensures))

pub returns-then-not_open : goal.returns-then-not_open
unfolding refuse
returns-then-not_open c =
    let a = c.args in
    let k = admitted _ _ _ _ c.in_ok-admit.ensures in
    sym (edit_slot_lem (frame_of a.f a.words.now) a.words.now a.slots (request_of a.q) a.limit k.ok_frame k.ok_table (sym c.not_open.ensures ∙ c.if-not_open.true))

pub edit_open-requires : goal.edit_open-requires
edit_open-requires c =
    let k = admitted _ _ _ _ c.in_ok-admit.ensures in
    record {
      ok_frame = k.ok_frame;
      ok_table = k.ok_table;
      ok_slot = sym c.not_open.ensures ∙ c.if-not_open.false;
      small = c.requires;
      marked = k.marked;
    }
