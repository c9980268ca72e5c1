-- `forms::pieces::pieces_are` meets its contract: the pieces that are left decide the whole block.
use mathlib.Core.Path.{◌≡◌}
use Prim.Native.Nat.{◌+◌, ◌-◌, ◌*◌}
use Rattle.table.specs.Board.{PIECE-PAGES, frame_of}
use Rattle.model.specs.Forms.{all_are}
use Rattle.types.specs.Views.{entry_of, request_of}
use Rattle.forms.proofs.pieces.pieces_are.Given as goal

abbrev pub invariant-loop-i : goal.invariant-loop-i
invariant-loop-i l =
    let are = all_are (frame_of l.edit.f l.words) l.words (request_of l.edit.q) (entry_of l.block.e) l.p in
    are 8192 (l.block.b * 8192) ≡ are (8192 - l.i * PIECE-PAGES) (l.block.b * 8192 + l.i * PIECE-PAGES)
