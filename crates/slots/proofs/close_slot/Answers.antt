-- `slots::close_slot` meets its contract: each return is one of the laws of `Refusals`, by the tests so far.
use mathlib.Core.Path.{ap, ◌∙◌}
use Rattle.std.proofs.lemmas.Result.{err_from_is_err_and}
use Rattle.scan.proofs.Admissions.{admitted}
use Rattle.slots.specs.Outcomes.{outcome_of}
use Rattle.slots.specs.declared.Outcome.{Outcome}
use Rattle.slots.proofs.Refusals.{close_not_admitted, close_slot_lem, close_done}
use Rattle.slots.proofs.close_slot.Goals as goal

pub returns-in_err-admit : goal.returns-in_err-admit
returns-in_err-admit c =
    let p = err_from_is_err_and c.from_residual.result c.from_residual.ensures.1 in
    rw (p.1, p.2) (close_not_admitted _ _ _ _ _ c.in_err-admit.ensures)

pub returns-then-not_open : goal.returns-then-not_open
returns-then-not_open c = let k = admitted _ _ _ _ c.in_ok-admit.ensures in close_slot_lem _ _ _ _ k.ok_frame k.ok_table c.if-not_open.ensures

pub returns : goal.returns
returns c =
    let k = admitted _ _ _ _ c.in_ok-admit.ensures in
    ap (λ (o : Outcome). outcome_of o c.args.words.now) c.close_at.ensures ∙ close_done _ _ _ _ k.ok_frame k.ok_table c.if-not_open.ensures
