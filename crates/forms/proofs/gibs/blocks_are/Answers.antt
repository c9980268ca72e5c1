-- `forms::gibs::blocks_are` meets its contract: the blocks that are left decide the whole GiB.
use mathlib.Core.Path.{sym, ◌∙◌}
use Prim.Native.Nat.{◌*◌}
use native.Mathlib.Nat.{add-zero}
use native.Mathlib.Omega.{arith}
use Rattle.shapes.proofs.GibLaws.{gib_every}
use Rattle.shapes.proofs.Fields.{every_next, every_stop, every_none}
use Rattle.forms.proofs.gibs.blocks_are.Goals as goal

pub loop-i-init : goal.loop-i-init
loop-i-init c = rw add-zero (gib_every _ _ _ _ _ _)

pub returns-then-not-block_is : goal.returns-then-not-block_is
returns-then-not-block_is c =
    sym (c.loop-i.invariant
    ∙ every_stop _ 32 (c.args.g * 32) c.loop-i.i (omega arith) (rw (c.block_is.ensures, c.entry_at-e.ensures.0) at c.if-not-block_is.true))

pub loop-i-preserved : goal.loop-i-preserved
loop-i-preserved c =
    c.loop-i.invariant
    ∙ every_next _ 32 (c.args.g * 32) c.loop-i.i (omega arith) (rw (c.block_is.ensures, c.entry_at-e.ensures.0) at c.if-not-block_is.false)

pub returns : goal.returns
returns c = sym (c.loop-i.invariant ∙ every_none _ _ _ (omega arith))
