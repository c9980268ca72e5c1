-- `monitor::edit_open` meets its contract: the refusals of range, permission, lent pages and room in their order, and then the stores of an accepted edit.
use mathlib.Core.Path.{◌≡◌, sym, ap, ◌∙◌, subst, subst₃}
use mathlib.Core.List.{List}
use Prim.Native.Nat.{ℕ, ◌≤◌}
use native.Mathlib.Omega.{arith}
use lib.Dec.{ltb, lit≤}
use lib.ListN.{length}
use borrow.Author.Tests.{lt-ltb, le-ltb}
use Rattle.model.specs.Frame.{Frame}
use Rattle.model.specs.Sound.{roots, free_pages}
use Rattle.model.specs.Forms.{Request}
use Rattle.model.specs.Stores.{Store}
use Rattle.model.specs.Calls.{slot_at, register_for, root_of, refuse, edit_refusal, store_list}
use Rattle.laws.proofs.FrameNumbers.{framed}
use Rattle.types.specs.declared.Free.{Free}
use Rattle.marks.specs.Marks.{Marks}
use Rattle.scan.specs.FreeMarks.{listed, marked_pages}
use Rattle.scan.proofs.Laws.{marked_are_free}
use Rattle.types.specs.Views.{request_of, free_list}
use Rattle.shapes.specs.Blocks.{whole_pages}
use Rattle.sequence.specs.Prepared.{Prepared}
use Rattle.sequence.specs.StoresMade.{StoresMadeIs}
use Rattle.forms.proofs.BoardShape.{board_shape}
use Rattle.range.proofs.RangeEnds.{fair_of}
use Rattle.sequence.proofs.Facts.{accepted_list}
use Rattle.shapes.specs.Rooted.{Rooted}
use Rattle.monitor.specs.Edits.{InOpenSlot}
use Rattle.monitor.proofs.EditRefusals.{no_room, edit_range, edit_write_execute, edit_lent, edit_no_room, edit_accepted, edit_done, made_is}
use Rattle.monitor.proofs.FreePages.{listed_front, listed_short}
use Rattle.monitor.proofs.SlotRoots.{rooted_slot}
use Rattle.table.specs.Board.{frame_of}
use Rattle.monitor.proofs.edit_open.Goals as goal
use Rattle.monitor.proofs.edit_open.Goals.{Else-count-new_pages}

-- what is picked from the marks are the free pages
picked : {F : Frame} {m : List ℕ} {slots : List ℕ} {q : Request} {marks : Marks} {free : Free} → InOpenSlot F m slots q marks → free ≡ listed (marked_pages F marks)
    → free ≡ listed (free_pages F m (roots F slots))
picked k says = says ∙ ap listed (marked_are_free _ _ _ _ k.marked)

-- and the new pages are those of the whole edit, from the slot's own root: so the count says whether there is room
room_says : {F : Frame} {m : List ℕ} {slots : List ℕ} {q : Request} {marks : Marks} {free : Free} {count n root : ℕ} → InOpenSlot F m slots q marks
    → free ≡ listed (marked_pages F marks) → count ≡ length (free_list free) → (n ≡ whole_pages F m q root) × (n ≤ 2) → root ≡ root_of F slots q → no_room F m slots q ≡ ltb count n
room_says {F} {m} {slots} {q} {free = free} {n = n} k says counted whole own =
    sym
    (ap (λ (x : ℕ). ltb x n) (counted ∙ ap (λ (x : Free). length (free_list x)) (picked k says))
    ∙ listed_short (free_pages F m (roots F slots)) n whole.1
    ∙ ap (ltb (length (free_pages F m (roots F slots)))) (whole.0 ∙ ap (whole_pages F m q) own))

-- no refusal fits
accepted : (c : Else-count-new_pages) → let a = c.args in edit_refusal (frame_of a.f a.words.now) a.words.now a.slots (request_of a.q) ≡ 0
unfolding root_of register_for slot_at
accepted c =
    edit_accepted c.args.limit c.requires
    (sym c.bad_range.ensures ∙ c.if-bad_range.false)
    (sym c.write_execute.ensures ∙ c.if-write_execute.false)
    (sym c.on_lent_pages.ensures ∙ c.if-on_lent_pages.false)
    (room_says c.requires c.free_pages-free.ensures c.count.ensures c.new_pages.ensures c.ppn-root.ensures.0 ∙ le-ltb _ _ (omega (arith, c.if-count-new_pages.false)))

-- the edit, in the words of the crate that makes the stores
asks : (c : Else-count-new_pages) → let a = c.args in
    Prepared (frame_of a.f a.words.now) a.words.now (request_of a.q) c.ppn-root.result.0 (free_list c.free_pages-free.result)
unfolding slot_at register_for root_of
asks c =
    record {
      small = c.requires.small;
      slots = c.args.slots;
      none = accepted c;
      is_root = c.ppn-root.ensures.0;
      are_free = ap free_list (picked c.requires c.free_pages-free.ensures) ∙ listed_front _;
      typed = λ i. omega (arith, c.slice_known-1.given i);
    }

pub bad_range-requires : goal.bad_range-requires
bad_range-requires c = (framed _ _ c.requires.ok_frame).0

pub returns-then-bad_range : goal.returns-then-bad_range
unfolding refuse
returns-then-bad_range c = sym (edit_range c.args.limit c.requires (sym c.bad_range.ensures ∙ c.if-bad_range.true))

pub returns-then-write_execute : goal.returns-then-write_execute
unfolding refuse
returns-then-write_execute c =
    sym (edit_write_execute c.args.limit c.requires (sym c.bad_range.ensures ∙ c.if-bad_range.false) (sym c.write_execute.ensures ∙ c.if-write_execute.true))

pub on_lent_pages-requires : goal.on_lent_pages-requires
on_lent_pages-requires c = ((framed _ _ c.requires.ok_frame).0, sym c.bad_range.ensures ∙ c.if-bad_range.false)

pub returns-then-on_lent_pages : goal.returns-then-on_lent_pages
unfolding refuse
returns-then-on_lent_pages c =
    sym
    (edit_lent c.args.limit c.requires (sym c.bad_range.ensures ∙ c.if-bad_range.false) (sym c.write_execute.ensures ∙ c.if-write_execute.false)
    (sym c.on_lent_pages.ensures ∙ c.if-on_lent_pages.true))

pub free_pages-free-requires : goal.free_pages-free-requires
free_pages-free-requires c = (framed _ _ c.requires.ok_frame).0

pub invariant_of-edit : goal.invariant_of-edit
invariant_of-edit c =
    record {
      fair = fair_of (frame_of c.args.f c.args.words.now) c.args.q (lit≤ tt) (framed _ _ c.requires.ok_frame).0 (sym c.bad_range.ensures ∙ c.if-bad_range.false) c.requires.small;
    }

pub new_pages-requires : goal.new_pages-requires
unfolding slot_at
new_pages-requires c =
    let a = c.args in
    record {
      small = c.requires.small;
      ok_frame = c.requires.ok_frame;
      range = sym c.bad_range.ensures ∙ c.if-bad_range.false;
      rooted = subst (Rooted (frame_of a.f a.words.now) a.words.now) (sym c.ppn-root.ensures.0)
          (rooted_slot a.f a.words.now a.slots a.q.slot c.requires.ok_frame c.requires.ok_table c.requires.ok_slot);
    }

pub returns-then-count-new_pages : goal.returns-then-count-new_pages
unfolding refuse root_of register_for slot_at
returns-then-count-new_pages c =
    sym
    (edit_no_room c.args.limit c.requires (sym c.bad_range.ensures ∙ c.if-bad_range.false) (sym c.write_execute.ensures ∙ c.if-write_execute.false)
    (sym c.on_lent_pages.ensures ∙ c.if-on_lent_pages.false)
    (room_says c.requires c.free_pages-free.ensures c.count.ensures c.new_pages.ensures c.ppn-root.ensures.0 ∙ lt-ltb _ _ (omega (arith, c.if-count-new_pages.true))))

pub make-made-requires : goal.make-made-requires
make-made-requires c = asks (goal.at.make-made-requires c).Else-count-new_pages

pub returns : goal.returns
unfolding asks slot_at register_for root_of
returns c =
    let a = c.args in
    let m = a.words.now in
    let F = frame_of a.f m in
    let q = request_of a.q in
    let k = (goal.at.returns c).Else-count-new_pages in
    made_is F m a.slots q a.limit (store_list F m a.slots q) c.make-made.new.words c.make-made.result
    (subst₃ (λ (root sdid : ℕ) (list : List Store). StoresMadeIs F q root sdid list a.limit m c.make-made.new.words c.make-made.result)
    c.ppn-root.ensures.0 c.sdid-sdid.ensures.0
    (accepted_list F board_shape m q c.ppn-root.result.0 (free_list c.free_pages-free.result) (asks k))
    c.make-made.ensures)
    ∙ sym (edit_done F m a.slots q a.limit (accepted k))
