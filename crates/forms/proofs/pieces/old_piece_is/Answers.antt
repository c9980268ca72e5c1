-- `forms::pieces::old_piece_is` meets its contract: by what the block's entry says; with an L1 page, by the words of the piece.
use mathlib.Core.Path.{◌≡◌, ap, ◌∙◌}
use Prim.Native.Nat.{ℕ, ◌+◌, ◌*◌, ◌/◌, ◌%◌}
use native.Mathlib.Omega.{arith}
use Rattle.laws.proofs.FrameNumbers.{index_add}
use Rattle.table.specs.Board.{PIECE-PAGES, PIECE-WORDS, frame_of}
use Rattle.forms.proofs.BoardShape.{board_shape}
use Rattle.shapes.proofs.EntryLaws.{run_outside}
use Rattle.shapes.proofs.FormLaws.{piece_words_lem}
use Rattle.model.specs.Forms.{perm_of}
use Rattle.model.specs.Frame.{index_of}
use Rattle.model.specs.Numbers.{digit}
use Rattle.model.specs.Walk.{found, piece_of}
use Rattle.types.specs.Views.{request_of}
use Rattle.forms.proofs.pieces.old_piece_is.Goals as goal

pub returns-in-Flat : goal.returns-in-Flat
unfolding found perm_of
returns-in-Flat c =
    let a = c.args in
    let pre = c.requires in
    run_outside _ board_shape _ _ a.edit.fair.small _ pre.2 _ _ _ _ (omega arith) pre.3 (λ k lo hi. rw c.in-Flat.is)

pub returns-in-Pieces : goal.returns-in-Pieces
unfolding found perm_of piece_of
returns-in-Pieces c =
    let a = c.args in
    let pre = c.requires in
    rw c.piece.ensures.0
    (run_outside _ board_shape _ _ a.edit.fair.small _ pre.2 _ _ _ _ (omega arith) pre.3
    (λ k lo hi. let z : k % 8192 / PIECE-PAGES ≡ a.i = omega arith in rw c.in-Pieces.is (ap (digit 4 c.in-Pieces.info) z)))

pub returns-in-Table : goal.returns-in-Table
returns-in-Table c =
    let a = c.args in
    let F = frame_of a.edit.f a.words.now in
    let first : ℕ = index_of F c.in-Table.t.0 (a.i * PIECE-WORDS) in
    let at : c.page_at.result + a.i * PIECE-WORDS ≡ first = ap (λ (k : ℕ). k + a.i * PIECE-WORDS) c.page_at.ensures.0 ∙ index_add F c.in-Table.t.0 (a.i * PIECE-WORDS) in
    rw c.in-Table.is
    ((rw (c.spread.ensures, at) at c.same_words.ensures)
    ∙ piece_words_lem F board_shape a.words.now (request_of a.edit.q) a.edit.fair.small c.in-Table.t.0 (rw c.in-Table.is at c.requires.2) a.block.b a.i a.p c.requires.1 c.requires.0 c.requires.3
    (λ j u. omega (arith, c.type_inv.words (first + j))))
