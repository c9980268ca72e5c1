-- `edit::make` meets its contract: all stores were made, or the limit cut them; the count, the fence and the memory follow from that. The fence is
-- asked once they are made, in a frame that is still the one that the edit found.
use mathlib.Core.Path.{◌≡◌, sym, ap, ◌∙◌, subst}
use mathlib.Core.Bool.{true, false}
use mathlib.Core.List.{List}
use Prim.Native.Nat.{ℕ, ◌-◌}
use native.Mathlib.Omega.{arith}
use lib.ListN.{length}
use Rattle.model.specs.Forms.{Request}
use Rattle.model.specs.Frame.{Frame, lent, bounds_ok}
use Rattle.sequence.proofs.CountAndFence.{all_fits, all_is, cut_is}
use Rattle.forms.proofs.BoardShape.{board_shape}
use Rattle.sequence.proofs.Facts.{root_lent, bounds_in}
use Rattle.sequence.specs.StoresMade.{fence_after}
use Rattle.sequence.specs.Prepared.{Prepared, whole_list}
use Rattle.types.specs.Views.{request_of, free_list}
use Rattle.types.specs.declared.Frame as code
use Rattle.table.specs.Board.{frame_of, frame_over}
use Rattle.edit.proofs.make.Goals as goal

fence_here : (f : code.Frame) (m m' : List ℕ) {q : Request} {root : ℕ} {free : List ℕ} → length m' ≡ length m → Prepared (frame_of f m) m q root free
    → (lent (frame_of f m') root ≡ true) × (bounds_ok (frame_of f m') ≡ true)
fence_here f m m' {q} {root} {free} e k =
    subst (λ (X : Frame). (lent X root ≡ true) × (bounds_ok X ≡ true)) (sym (ap (frame_over f) e))
    (root_lent (frame_of f m) board_shape m q root free k, bounds_in (frame_of f m) board_shape m q root free k)

pub fence_after-fence-requires : goal.fence_after-fence-requires
fence_after-fence-requires c = fence_here c.args.edit.f c.args.words.now c.store_range.new.words c.store_range.auto.words c.requires

pub fence_after-fence-requires-2 : goal.fence_after-fence-requires-2
fence_after-fence-requires-2 c = fence_here c.args.edit.f c.args.words.now c.store_range.new.words c.store_range.auto.words c.requires

pub returns-in_default : goal.returns-in_default
returns-in_default c =
    let a = c.args in
    let F = frame_of a.edit.f a.words.now in
    let q = request_of a.edit.q in
    cut_is F q a.edit.root.0 a.sdid.0 (whole_list F a.words.now q a.edit.root.0 (free_list a.free)) a.limit a.words.now c.store_range.new.words (sym c.in_default.ensures) c.fence_after-fence.result
    (c.fence_after-fence.ensures ∙ ap (λ (X : Frame). fence_after X q a.edit.root.0 a.sdid.0 a.limit false 0) (ap (frame_over a.edit.f) c.store_range.auto.words))

pub overflow_sub-count : goal.overflow_sub-count
overflow_sub-count c =
    let a = c.args in
    let F = frame_of a.edit.f a.words.now in
    let q = request_of a.edit.q in
    omega (arith, all_fits F q a.edit.root.0 a.sdid.0 (whole_list F a.words.now q a.edit.root.0 (free_list a.free)) a.limit a.words.now c.in-Some.rest c.store_range.new.words (sym c.in-Some.ensures))

pub returns : goal.returns
returns c =
    let a = c.args in
    let F = frame_of a.edit.f a.words.now in
    let q = request_of a.edit.q in
    let l = c.in-Some.rest in
    all_is F q a.edit.root.0 a.sdid.0 (whole_list F a.words.now q a.edit.root.0 (free_list a.free)) a.limit a.words.now l c.store_range.new.words (sym c.in-Some.ensures) c.fence_after-fence-2.result
    (c.fence_after-fence-2.ensures
    ∙ ap (λ (X : Frame). fence_after X q a.edit.root.0 a.sdid.0 (a.limit - l.more) true l.last) (ap (frame_over a.edit.f) c.store_range.auto.words))
