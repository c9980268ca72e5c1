-- `forms::gibs::blocks_are` meets its contract: the blocks that are left decide the whole GiB.
use mathlib.Core.Path.{◌≡◌}
use Prim.Native.Nat.{◌+◌, ◌-◌, ◌*◌}
use Rattle.table.specs.Board.{frame_of}
use Rattle.shapes.specs.Blocks.{block_is}
use Rattle.model.specs.Forms.{gib_is_one}
use Rattle.model.specs.Numbers.{every}
use Rattle.types.specs.Views.{request_of}
use Rattle.forms.proofs.gibs.blocks_are.Given as goal

abbrev pub invariant-loop-i : goal.invariant-loop-i
invariant-loop-i l =
    let F = frame_of l.edit.f l.words in
    let q = request_of l.edit.q in
    gib_is_one F l.words q l.edit.root.0 l.g l.p ≡ every (block_is F l.words q l.edit.root.0 l.p) (32 - l.i) (l.g * 32 + l.i)
