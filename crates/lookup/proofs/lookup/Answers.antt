-- `lookup::lookup` meets its contract: each return follows the tests of the definition in their order; what M mode and Bare allow is judged as rwx.
use Rattle.std.specs.Prelude.{if◌then◌else◌}
use mathlib.Core.Path.{◌≡◌, refl, sym, ap, ◌∙◌}
use mathlib.Core.Bool.{Bool, true, false}
use Rattle.model.specs.Entry.{Found, perm}
use Rattle.model.specs.Access.{Kind, Need, read, write, execute, allowed, may_rows, column_of, may, need_of, judge}
use Rattle.model.specs.Register.{register_ok}
use Rattle.model.specs.Frame.{frame_ok}
use Rattle.model.specs.Lookup.{lookup, reads}
use Rattle.types.specs.Views.{kind_of}
use Rattle.table.specs.Board.{board, frame_of}
use Rattle.laws.proofs.FrameNumbers.{framed}
use Rattle.lookup.proofs.lookup.Goals as goal
use Rattle.lookup.proofs.lookup.Goals.{Else-not-frame_ok, Else-not-register_ok}

-- the frame is within its bounds, and the register is not refused
frame_passes : (c : Else-not-frame_ok) → let a = c.args in frame_ok (frame_of a.f a.words.now) a.words.now ≡ true
frame_passes c = sym c.frame_ok.ensures ∙ c.if-not-frame_ok.false

register_passes : (c : Else-not-register_ok) → register_ok board c.args.register ≡ true
register_passes c = sym c.register_ok.ensures ∙ c.if-not-register_ok.false

-- rwx serves every access
rwx_serves : (n : Need) → may 3 n ≡ true
unfolding may may_rows column_of
rwx_serves read = refl
rwx_serves write = refl
rwx_serves execute = refl

rwx_allows : (k : Kind) → judge (perm 3) k ≡ allowed
unfolding judge
rwx_allows k = rw rwx_serves

judged : (m b : Bool) (w : Found) (k : Kind) → judge (if m then perm 3 else if b then perm 3 else w) k ≡ (if m then allowed else if b then allowed else judge w k)
judged true b w k = rwx_allows k
judged false true w k = rwx_allows k
judged false false w k = refl

pub returns-then-not-frame_ok : goal.returns-then-not-frame_ok
unfolding lookup
returns-then-not-frame_ok c = rw (sym c.frame_ok.ensures ∙ c.if-not-frame_ok.true)

pub returns-then-not-register_ok : goal.returns-then-not-register_ok
unfolding lookup
returns-then-not-register_ok c = rw (frame_passes (goal.at.returns-then-not-register_ok c).Else-not-frame_ok, sym c.register_ok.ensures ∙ c.if-not-register_ok.true)

pub reached-found-requires : goal.reached-found-requires
reached-found-requires c = (framed _ _ (frame_passes (goal.at.reached-found-requires c).Else-not-frame_ok)).0

pub returns : goal.returns
unfolding lookup reads
returns c =
    rw (frame_passes (goal.at.returns c).Else-not-frame_ok, register_passes (goal.at.returns c).Else-not-register_ok)
    (c.judge.ensures _ c.need_of-need.ensures c.cause_of-cause.ensures ∙ ap (λ (f : Found). judge f (kind_of c.args.kind)) c.reached-found.ensures ∙ judged _ _ _ _)
