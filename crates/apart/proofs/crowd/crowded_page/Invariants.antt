-- `apart::crowd::crowded_page` meets its contract: the invariant: no page of the blocks passed is crowded.
use Prim.Native.Nat.{◌*◌}
use Rattle.model.specs.Layout.{block_pages}
use Rattle.sharing.specs.Crowds.{crowded}
use Rattle.sharing.proofs.FirstLaws.{NoneOf}
use Rattle.table.specs.Board.{frame_of}
use Rattle.types.specs.Views.{strength_of}
use Rattle.apart.proofs.crowd.crowded_page.Given as goal

abbrev pub invariant-loop-b : goal.invariant-loop-b
invariant-loop-b l = NoneOf (crowded (frame_of l.f l.words) l.words l.slots (strength_of l.s)) 0 (l.b * block_pages)
