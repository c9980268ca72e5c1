-- `apart::apart` meets its contract: what `admit` refuses, or what `apart_admitted` finds with the marks.
use Rattle.std.proofs.lemmas.Result.{err_from_is_err_and}
use mathlib.Core.Path.{refl, sym}
use mathlib.Core.List.{[]}
use Rattle.model.specs.Apart.{refused_apart, apart_refusal, apart_answer}
use Rattle.model.specs.Calls.{first_met}
use Rattle.scan.proofs.Admissions.{admitted, refused_whatever}
use Rattle.table.specs.Board.{frame_of}
use Rattle.apart.proofs.apart.Goals as goal

pub returns-in_err-admit : goal.returns-in_err-admit
unfolding apart_answer apart_refusal
returns-in_err-admit c =
    let a = c.args in
    let p = err_from_is_err_and c.from_residual.result c.from_residual.ensures.1 in
    rw (p.1, p.2) (sym (refused_whatever (frame_of a.f a.words.now) a.words.now a.slots c.in_err-admit.field-0.0 [] _ refused_apart _ c.in_err-admit.ensures refl))

pub apart_admitted-requires : goal.apart_admitted-requires
apart_admitted-requires c =
    let a = c.args in
    admitted (frame_of a.f a.words.now) a.words.now a.slots _ c.in_ok-admit.ensures

pub returns : goal.returns
unfolding apart_answer apart_refusal first_met
returns c =
    let a = c.args in
    let ok = admitted (frame_of a.f a.words.now) a.words.now a.slots _ c.in_ok-admit.ensures in
    rw (ok.ok_frame, ok.ok_table) c.apart_admitted.ensures
