-- `slots::open_slot` meets its contract: each return is one of the laws of `Refusals`, by the tests so far.
use mathlib.Core.Path.{sym, ◌∙◌}
use Rattle.std.proofs.lemmas.Result.{err_from_is_err_and}
use Rattle.laws.proofs.FrameNumbers.{framed}
use Rattle.scan.proofs.Admissions.{admitted}
use Rattle.shapes.proofs.SlotLaws.{slot_low, sdid_low}
use Rattle.slots.proofs.Refusals.{open_not_admitted, open_slot_lem, open_sdid, open_no_room, open_done, root_lent}
use Rattle.slots.proofs.open_slot.Goals as goal

pub returns-in_err-admit : goal.returns-in_err-admit
returns-in_err-admit c =
    let p = err_from_is_err_and c.from_residual.result c.from_residual.ensures.1 in
    rw (p.1, p.2) (open_not_admitted _ _ _ _ _ _ c.in_err-admit.ensures)

pub returns-then-not_empty : goal.returns-then-not_empty
returns-then-not_empty c = let k = admitted _ _ _ _ c.in_ok-admit.ensures in open_slot_lem _ _ _ _ _ k.ok_frame k.ok_table c.if-not_empty.ensures

pub returns-then-bad_sdid : goal.returns-then-bad_sdid
returns-then-bad_sdid c = let k = admitted _ _ _ _ c.in_ok-admit.ensures in open_sdid _ _ _ _ _ k.ok_frame k.ok_table c.if-not_empty.ensures c.if-bad_sdid.ensures

pub free_pages-requires : goal.free_pages-requires
free_pages-requires c = (framed _ _ (admitted _ _ _ _ c.in_ok-admit.ensures).ok_frame).0

pub returns-in_default : goal.returns-in_default
returns-in_default c = open_no_room _ _ _ _ _ _ c.in_ok-admit.ensures c.if-not_empty.ensures c.if-bad_sdid.ensures c.free_pages.ensures c.in_default.is

pub open_at-requires : goal.open_at-requires
open_at-requires c = (
  (framed _ _ (admitted _ _ _ _ c.in_ok-admit.ensures).ok_frame).0,
  root_lent _ _ _ _ _ _ c.in_ok-admit.ensures c.if-not_empty.ensures c.if-bad_sdid.ensures c.free_pages.ensures c.in-Some.is,
  slot_low _ _ (sym c.if-not_empty.ensures),
  sdid_low _ _ (sym c.if-bad_sdid.ensures),
)

pub returns : goal.returns
returns c =
    c.open_at.ensures ∙ open_done _ _ _ _ _ _ c.in_ok-admit.ensures c.if-not_empty.ensures c.if-bad_sdid.ensures c.free_pages.ensures c.in-Some.is
