-- `edit::store_range` meets its contract: before each step of the loop the edit stands before block b (`LoopInvariant`), so that the stores that
-- are left decide the whole; past the last block none is left.
use Rattle.std.specs.Prelude.{Result, Ok, Err, IfOk}
use mathlib.Core.Path.{refl, sym, ◌∙◌}
use mathlib.Core.List.{List}
use Prim.Native.Nat.{ℕ, ◌<◌}
use native.Mathlib.Omega.{arith}
use Rattle.model.specs.Forms.{Request}
use Rattle.model.specs.Frame.{Frame}
use Rattle.sequence.proofs.Facts.{facts}
use Rattle.sequence.proofs.LoopInvariant.{invariant_start, invariant_rooted, invariant_room, invariant_flag, invariant_new_page, invariant_ahead, invariant_cut, invariant_next, invariant_end}
use Rattle.shapes.specs.Blocks.{GibIs}
use Rattle.shapes.proofs.RunLaws.{out_whole, out_cut}
use Rattle.types.specs.Views.{request_of, free_list}
use Rattle.table.specs.Board.{frame_of}
use Rattle.forms.proofs.BoardShape.{board_shape}
use Rattle.edit.proofs.store_range.Goals as goal

gib_small : (F : Frame) (m : List ℕ) (q : Request) (root g : ℕ) (gib : Result ℕ ℕ) → GibIs F m q root g gib → IfOk gib (λ p. p < 4)
gib_small F m q root g (Ok p) is = is.2
gib_small F m q root g (Err p) is = tt

pub loop-b-init : goal.loop-b-init
loop-b-init c =
    let a = c.args in
    invariant_start (facts (frame_of a.edit.f a.words.now) board_shape a.words.now (request_of a.edit.q) a.edit.root.0 (free_list a.free) c.requires) refl refl

pub gib_at-gib-requires : goal.gib_at-gib-requires
gib_at-gib-requires c =
    let t = c.loop-b.invariant in
    (invariant_rooted t, invariant_room t c.loop-b-test.true, invariant_flag t c.loop-b-test.true)

pub next_blocks-step-requires : goal.next_blocks-step-requires
next_blocks-step-requires c =
    let t = c.loop-b.invariant in
    let g = c.gib_at-gib in (
      invariant_rooted t,
      invariant_room t c.loop-b-test.true,
      gib_small _ _ _ _ _ g.result g.ensures,
      omega (arith, t.at_block.taken, t.k.few),
      invariant_new_page t c.loop-b-test.true g.result g.ensures,
      invariant_ahead t c.loop-b-test.true g.result g.ensures,
    )

pub returns-in_err-left : goal.returns-in_err-left
returns-in_err-left c =
    let r = c.next_blocks-step in
    let g = c.gib_at-gib in
    let z = out_cut r.new.words c.in_err-left.was in
    rw c.from_residual.ensures (sym z ∙ invariant_cut c.loop-b.invariant c.loop-b-test.true g.result g.ensures r.result.count r.ensures.within r.ensures.made z)

pub loop-b-preserved : goal.loop-b-preserved
loop-b-preserved c =
    let r = c.next_blocks-step in
    let g = c.gib_at-gib in
    let z = out_whole r.new.words c.in_ok-left.was in
    invariant_next c.loop-b.invariant c.loop-b-test.true g.result g.ensures r.result.count r.ensures.within r.ensures.made z r.result.next r.ensures.pages

pub returns : goal.returns
returns c = invariant_end c.loop-b.invariant c.loop-b-test.false
