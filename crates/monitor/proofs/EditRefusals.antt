-- What an edit leaves, by the tests in their order: each law assumes that the tests before it were passed.
use Rattle.std.specs.Prelude.{Some, Ok}
use mathlib.Core.Path.{◌≡◌, refl}
use mathlib.Core.Bool.{Bool, true, false, not, ◌&&◌}
use mathlib.Core.List.{List}
use Prim.Native.Nat.{ℕ, ◌*◌}
use lib.Dec.{eqb, ltb}
use lib.ListN.{length}
use Rattle.model.specs.Layout.{gib_blocks}
use Rattle.model.specs.Register.{sdid_of}
use Rattle.model.specs.Frame.{Frame, frame_ok}
use Rattle.model.specs.Sound.{Slot, roots, sound, free_pages}
use Rattle.model.specs.Forms.{Request, forms, first_gib}
use Rattle.model.specs.Stores.{Store, new_pages}
use Rattle.model.specs.Calls.{edited, first_met, register_for, root_of, refuse, bad_range, write_execute, meets_lent, finished, edit_refusal_with, edit_refusal, store_list, made, edit_with, edit_slot}
use Rattle.types.specs.declared.StoresMade.{StoresMade}
use Rattle.sequence.specs.StoresMade.{StoresMadeIs}
use Rattle.shapes.specs.Slots.{not_open}
use Rattle.slots.specs.Outcomes.{outcome_of}
use Rattle.types.specs.declared.Reply.TheVariants.{Edited}
use Rattle.types.specs.declared.Refusal.{Refusal}
use Rattle.types.specs.Views.{refusal_number}
use Rattle.marks.specs.Marks.{Marks}
use Rattle.scan.specs.Admission.{admission_of}
use Rattle.scan.proofs.Admissions.{not_admitted}
use Rattle.monitor.specs.Edits.{InOpenSlot}

module _ (F : Frame) (m : List ℕ) (slots : List Slot) (q : Request) where
  -- the whole edit needs more new pages than are free
  abbrev pub no_room : Bool
  no_room = ltb (length (free_pages F m (roots F slots))) (new_pages F m (root_of F slots q) (first_gib q * gib_blocks) (forms F m q (root_of F slots q)))

  module _ (limit : ℕ) where
    pub edit_not_admitted : (r : Refusal) → admission_of F m slots ≡ Some r → edit_slot F m slots q limit ≡ refuse F m slots (refusal_number r)
    unfolding edit_slot edit_with edit_refusal_with
    edit_not_admitted r h = not_admitted F m slots r _ _ _ h refl

    pub edit_slot_lem : frame_ok F m ≡ true → sound F m slots ≡ true → not_open slots q.slot ≡ true → edit_slot F m slots q limit ≡ refuse F m slots 4
    unfolding edit_slot edit_with edit_refusal_with first_met
    edit_slot_lem one three h = rw (one, three, h)

    pub edit_done : edit_refusal F m slots q ≡ 0 → edit_slot F m slots q limit ≡ made F m slots q (store_list F m slots q) limit
    unfolding edit_slot edit_with edit_refusal store_list
    edit_done h = rw h

    -- an answer that says what was made is the model's
    pub made_is : (list : List Store) (m' : List ℕ) (r : StoresMade) → StoresMadeIs F q (root_of F slots q) (sdid_of F.layout (register_for slots q)) list limit m m' r
        → outcome_of (record { reply = Ok (Edited r.count r.all); slots = slots; fence = r.fence }) m' ≡ made F m slots q list limit
    unfolding made
    made_is list m' r k = λ i. record { reply = edited (k.count i) (k.all i); memory = k.memory i; slots = slots; fence = k.fence i }

-- in an open slot of a sound table
module _ {F : Frame} {m : List ℕ} {slots : List Slot} {q : Request} {marks : Marks} (limit : ℕ) (k : InOpenSlot F m slots q marks) where
  abbrev Refused : ℕ → Type 0
  Refused n = edit_slot F m slots q limit ≡ refuse F m slots n

  pub edit_range : bad_range F q ≡ true → Refused 5
  unfolding edit_slot edit_with edit_refusal_with first_met
  edit_range h = rw (k.ok_frame, k.ok_table, k.ok_slot, h)

  module _ (five : bad_range F q ≡ false) where
    pub edit_write_execute : write_execute q ≡ true → Refused 10
    unfolding edit_slot edit_with edit_refusal_with first_met
    edit_write_execute h = rw (k.ok_frame, k.ok_table, k.ok_slot, five, h)

    module _ (ten : write_execute q ≡ false) where
      pub edit_lent : (not (eqb q.permission 0) && meets_lent F q) ≡ true → Refused 6
      unfolding edit_slot edit_with edit_refusal_with first_met
      edit_lent h = rw (k.ok_frame, k.ok_table, k.ok_slot, five, ten, h)

      module _ (six : (not (eqb q.permission 0) && meets_lent F q) ≡ false) where
        pub edit_no_room : no_room F m slots q ≡ true → Refused 7
        unfolding edit_slot edit_with edit_refusal_with first_met finished
        edit_no_room h = rw (k.ok_frame, k.ok_table, k.ok_slot, five, ten, six, h)

        pub edit_accepted : no_room F m slots q ≡ false → edit_refusal F m slots q ≡ 0
        unfolding edit_refusal edit_refusal_with first_met finished
        edit_accepted h = rw (k.ok_frame, k.ok_table, k.ok_slot, five, ten, six, h)
