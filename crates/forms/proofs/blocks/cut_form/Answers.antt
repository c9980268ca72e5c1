-- `forms::blocks::cut_form` meets its contract: a mixed piece at an end of the range decides for the block.
use mathlib.Core.Path.{◌≡◌}
use mathlib.Core.Bool.{false}
use mathlib.Core.List.{List}
use Prim.Native.Nat.{ℕ, ◌+◌, ◌/◌, ◌%◌, ◌<◌}
use native.Mathlib.Omega.{arith}
use Rattle.std.specs.Prelude.{Result, Ok, Err, is_ok}
use Rattle.model.specs.Entry.{Entry}
use Rattle.model.specs.Forms.{Request, form_in, want_table}
use Rattle.model.specs.Frame.{Frame}
use Rattle.table.specs.Board.{PIECES, PIECE-BYTES}
use Rattle.shapes.specs.Blocks.{PieceIs}
use Rattle.shapes.proofs.FormLaws.{form_table}
use Rattle.shapes.proofs.Fields.{every_fail}
use Rattle.forms.proofs.blocks.cut_form.Goals as goal
use Rattle.forms.proofs.blocks.cut_form.Goals.{then-is_err-via-then-is_err, then-is_err-via-else-is_err+then-is_err-2}

-- a piece that is not of one permission
module _ (F : Frame) (m : List ℕ) (q : Request) (e : Entry) (b i : ℕ) (h : i < F.layout.pieces) where
  mixed : (piece : Result ℕ ℕ) → PieceIs F m q e b i piece → is_ok piece ≡ false → want_table ≡ form_in F m q false 0 e b
  mixed (Ok p) one z = absurd (cc)
  mixed (Err p) two z = form_table F m q e b (every_fail _ F.layout.pieces i h (rw two.0 at two.1))

pub returns-then-is_err : goal.returns-then-is_err
returns-then-is_err c = let q = c.args.edit.q in elim c.then-is_err.branch [
  | then-is_err-via-then-is_err w ↦ mixed _ _ _ _ _ (q.start.0 / PIECE-BYTES % PIECES) (omega arith) _ c.piece_at.ensures w.if-is_err.ensures.negation
  | then-is_err-via-else-is_err+then-is_err-2 w ↦ mixed _ _ _ _ _ ((q.start.0 + q.size) / PIECE-BYTES % PIECES) (omega arith) _ w.piece_at-else-is_err.ensures w.if-is_err-2.ensures.negation
]
