-- `entries::fresh::old_entries` meets its contract: each step of the loop fills the entries that are one word, and those that are left decide the
-- whole run (`New`).
use Prim.Native.Nat.{◌-◌}
use native.Mathlib.Omega.{arith}
use Rattle.shapes.proofs.NewPage.{new_start, new_ahead, new_until, new_cut, new_end, new_good, new_lent}
use Rattle.entries.proofs.Needs.{plain}
use Rattle.entries.proofs.fresh.old_entries.Goals as goal

pub loop-i-init : goal.loop-i-init
loop-i-init c = new_start (plain _ c.args.new.needs) c.requires.1 c.requires.5

pub old_fill-requires : goal.old_fill-requires
old_fill-requires c =
    let inv = c.loop-i.invariant in
    let end = c.same_until-end.ensures in (
      omega (arith, end.1, c.requires.0),
      end.0,
      new_good inv c.requires.2,
      new_lent inv c.requires.3,
      λ k lo hi. c.requires.4 k (omega (arith, inv.past)) (omega (arith, inv.past, end.0, end.1)),
      λ k lo hi. end.2 c.args.edit.f c.loop-i.words k lo hi,
      new_ahead inv (c.same_until-end.result - c.loop-i.i) (omega (arith, end.0, end.1)),
    )

pub returns-in_err-more : goal.returns-in_err-more
returns-in_err-more c =
    let end = c.same_until-end in
    rw c.from_residual.ensures (new_cut c.loop-i.invariant (end.result - c.loop-i.i) (omega (arith, end.ensures.0, end.ensures.1)) c.in_err-more.ensures)

pub loop-i-preserved : goal.loop-i-preserved
loop-i-preserved c =
    let end = c.same_until-end in
    new_until c.loop-i.invariant end.result (omega (arith, end.ensures.0)) end.ensures.1 c.in_ok-more.ensures c.old_fill.auto.words

pub returns : goal.returns
returns c = new_end c.loop-i.invariant c.loop-i-test.false
