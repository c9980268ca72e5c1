-- `entries::fresh::new_entries` meets its contract: the loop keeps `New`: the entries that are left decide the whole run.
use native.Mathlib.Omega.{arith}
use Rattle.shapes.proofs.NewPage.{new_start, new_ahead, new_next, new_cut, new_end, new_good, new_lent}
use Rattle.model.specs.Numbers.{joined}
use Rattle.entries.proofs.Needs.{plain}
use Rattle.entries.proofs.fresh.new_entries.Goals as goal

pub loop-i-init : goal.loop-i-init
loop-i-init c = new_start (plain _ c.args.new.needs) c.requires.1 c.requires.4

pub new_entry-requires : goal.new_entry-requires
unfolding joined
new_entry-requires c =
    let inv = c.loop-i.invariant in (
      omega (arith, c.requires.0),
      new_good inv c.requires.2,
      new_lent inv c.requires.3,
      new_ahead inv 1 (omega (arith, c.loop-i-test.true)),
    )

pub returns-in_err-more : goal.returns-in_err-more
unfolding joined
returns-in_err-more c = rw c.from_residual.ensures (new_cut c.loop-i.invariant 1 (omega (arith, c.loop-i-test.true)) c.in_err-more.ensures)

pub loop-i-preserved : goal.loop-i-preserved
unfolding joined
loop-i-preserved c = new_next c.loop-i.invariant 1 (omega (arith, c.loop-i-test.true)) c.in_ok-more.ensures c.new_entry.auto.words

pub returns : goal.returns
returns c = new_end c.loop-i.invariant c.loop-i-test.false
