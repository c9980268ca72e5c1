-- `forms::blocks::pieces_form` meets its contract: the pieces so far, from the highest down, are the digits of the form; the first that is mixed decides.
use mathlib.Core.Path.{◌≡◌}
use mathlib.Core.Bool.{true}
use Prim.Native.Nat.{◌-◌}
use Rattle.table.specs.Board.{PIECES, frame_of}
use Rattle.shapes.proofs.FormLaws.{first_of, is_one}
use Rattle.model.specs.Numbers.{pack, every}
use Rattle.types.specs.Views.{entry_of, request_of}
use Rattle.forms.proofs.blocks.pieces_form.Given as goal

abbrev pub invariant-loop-i : goal.invariant-loop-i
invariant-loop-i l =
    (l.info ≡ pack 4 (first_of (frame_of l.edit.f l.words) l.words (request_of l.edit.q) (entry_of l.block.e) l.block.b) (PIECES - l.i) l.i)
    × (every (is_one (frame_of l.edit.f l.words) l.words (request_of l.edit.q) (entry_of l.block.e) l.block.b) (PIECES - l.i) l.i ≡ true)
