-- `forms::pieces::words_are` meets its contract: the entries that are left decide the whole piece.
use mathlib.Core.Path.{◌≡◌}
use Prim.Native.Nat.{◌+◌, ◌-◌, ◌*◌}
use Rattle.table.specs.Board.{FIELDS, PIECE-PAGES, frame_of}
use Rattle.model.specs.Forms.{all_are}
use Rattle.types.specs.Views.{entry_of, request_of}
use Rattle.forms.proofs.pieces.words_are.Given as goal

abbrev pub invariant-loop-j : goal.invariant-loop-j
invariant-loop-j l =
    let are = all_are (frame_of l.edit.f l.words) l.words (request_of l.edit.q) (entry_of l.block.e) l.p in
    are PIECE-PAGES (l.block.b * 8192 + l.i * FIELDS) ≡ are (PIECE-PAGES - l.j * FIELDS) (l.block.b * 8192 + (l.i + l.j) * FIELDS)
