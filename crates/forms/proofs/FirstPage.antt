-- The first page of a piece, from the word of the piece's first L1 entry.
use mathlib.Core.Path.{◌≡◌, sym, ap, ◌∙◌, subst}
use mathlib.Core.List.{List}
use Prim.Native.Nat.{ℕ, ◌+◌, ◌*◌, ◌%◌, ◌<◌}
use native.Mathlib.Omega.{arith}
use Rattle.table.specs.Board.{FIELDS, PIECE-PAGES, PIECE-WORDS, frame_of}
use Rattle.types.specs.Views.{request_of}
use Rattle.types.specs.declared.Edit.{Edit}
use Rattle.model.specs.Entry.{Entry}
use Rattle.model.specs.Forms.{after_in, l1_word}
use Rattle.shapes.specs.Rooted.{Good}
use Rattle.shapes.proofs.EntryLaws.{first_field, after_small}
use Rattle.forms.proofs.BoardShape.{board_shape}

pub first_of_piece : (edit : Edit) (m : List ℕ) (e : Entry) (b i : ℕ) {w : ℕ} → Good (frame_of edit.f m) m e → w ≡ l1_word (frame_of edit.f m) m (request_of edit.q) e b (i * PIECE-WORDS)
    → (w % 16 ≡ after_in (frame_of edit.f m) m (request_of edit.q) e (b * 8192 + i * PIECE-PAGES)) × (w % 16 < 4)
first_of_piece edit m e b i g z =
    let rows : b * 8192 + i * PIECE-WORDS * FIELDS ≡ b * 8192 + i * PIECE-PAGES = omega arith in
    let first = ap (λ (k : ℕ). k % 16) z ∙ first_field _ board_shape _ _ edit.fair.small _ g b (i * PIECE-WORDS) ∙ ap (after_in _ _ _ _) rows in
    (first, subst (λ (k : ℕ). k < 4) (sym first) (after_small _ board_shape _ _ edit.fair.small _ g _))
