-- Opening and closing, as calls: the table stays sound, every other domain reads as before, and a new domain reads none everywhere.
-- Assumes what the types of the code say, that there are eight slots, and that the call is accepted.
use mathlib.Core.Path.{◌≡◌, refl, sym, ap, ap₂, ◌∙◌, subst}
use mathlib.Core.Bool.{true, false, not}
use mathlib.Core.Logic.{◌≢◌}
use mathlib.Core.List.{List, [], ◌∷◌, map, head_d}
use Prim.Native.Nat.{ℕ, ◌+◌, ◌^◌, ◌<◌}
use native.Mathlib.Omega.{arith}
use lib.Dec.{eqb, ltb}
use lib.ListN.{length, get_or, set}
use lib.Seq.{get_or-set_same}
use borrow.Author.Tests.{eqb-true, eqb-false, eq-eqb, ltb-true, ltb-false}
use Rattle.model.specs.Numbers.{distinct, each, member}
use Rattle.model.specs.Layout.{max_sdid, slot_count}
use Rattle.model.specs.Register.{ppn_of, register_of, sdid_of}
use Rattle.model.specs.Entry.{perm}
use Rattle.model.specs.Frame.{Frame, frame_ok, lent, page_of, space}
use Rattle.model.specs.Walk.{walk}
use Rattle.model.specs.Lookup.{reads}
use Rattle.model.specs.Sound.{Slot, empty_slot, free_pages, is_open, open_registers, register, roots, sdids, sound, sound_register, sound_slots, sound_table, used}
use Rattle.model.specs.Calls.{close_refusal, close_slot, open_at, open_refusal, open_slot, slot_at}
use Rattle.model.specs.Demands.{SamePermissions}
use Rattle.laws.proofs.Choices.{and_both, and_true, not-false-true, or_false, split}
use Rattle.laws.proofs.Sums.{Measure, times_measure, total, total_one_of}
use Rattle.laws.proofs.Times.{distinct_times, each_all, each_at, head_times, times, times_distinct, times_one, times_other, times_single}
use Rattle.theory.proofs.Used.{links, pages_of, used_measure}
use Rattle.theory.proofs.Entries.{Lawful}
use Rattle.theory.proofs.Frames.{Ok, frame_ok_lem, lent_ppn}
use Rattle.theory.proofs.Tables.{Sound, from_sound, to_sound}
use Rattle.theory.proofs.Free.{free_in, not_member}
use Rattle.theory.proofs.Domains.{domain_root, same_read}
use Rattle.theory.proofs.Accepts.{first_none}
use Rattle.theory.proofs.OneSlot.{cell_open, cell_shut, image_times, image_total, slot_change}
use Rattle.theory.proofs.Zeroed.{zero_from}
use Rattle.theory.proofs.Registers.{register_mode, register_open, register_ppn, register_sdid, register_wpri}
use Rattle.theory.proofs.Opening.{OneMore, less_sound, more_sound, more_walks, new_walks}

module _ (F : Frame) (lawful : Lawful F.layout) (m : List ℕ) (slots : List Slot) (eight : length slots ≡ slot_count) (s : ℕ) where
  abbrev RS : List ℕ
  RS = roots F slots

  -- ---- what both calls find

  record Finds : Type 0 where
    frame : frame_ok F m ≡ true
    good_slots : sound_slots F slots ≡ true
    good_table : sound_table F m RS ≡ true
    below : s < slot_count

  ok_at : Finds → Ok F
  ok_at f = (frame_ok_lem F m lawful f.frame).0

  sound_at : Finds → Sound F RS m
  sound_at f = to_sound F RS m (frame_ok_lem F m lawful f.frame).1 f.good_table

  finds : frame_ok F m ≡ true → sound F m slots ≡ true → ltb s slot_count ≡ true → Finds
  unfolding sound
  finds a b c =
      let t = and_true (sound_slots F slots) (sound_table F m RS) b in
      record { frame = a; good_slots = t.0; good_table = t.1; below = ltb-true s slot_count c }

  slots_of : sound_slots F slots ≡ true → (each (sound_register F) (open_registers slots) ≡ true) × (distinct (sdids F slots) ≡ true)
  unfolding sound_slots
  slots_of h = and_true (each (sound_register F) (open_registers slots)) (distinct (sdids F slots)) h

  -- ---- close

  module _ (accepted : close_refusal F m slots s ≡ 0) where
    abbrev shut : List Slot
    shut = set slots s empty_slot

    close_finds : Finds × (is_open (slot_at slots s) ≡ true)
    unfolding close_refusal
    close_finds =
        let a = first_none 0 _ _ accepted in
        let b = first_none 2 _ _ a.1 in
        let c = first_none 3 _ _ b.1 in
        let d = or_false (not (ltb s slot_count)) (not (is_open (slot_at slots s))) c.0 in
        (finds (not-false-true _ a.0) (not-false-true _ b.0) (not-false-true _ d.0), not-false-true _ d.1)

    abbrev r : ℕ
    r = register (slot_at slots s)

    less : (μ : List ℕ → ℕ) → Measure μ → μ (open_registers slots) ≡ μ (open_registers shut) + μ (r ∷ [])
    unfolding slot_at is_open
    less μ h =
        omega (
          arith,
          slot_change μ h slots s empty_slot (omega (arith, eight, close_finds.0.below)),
          ap μ (cell_open (get_or slots s empty_slot) close_finds.1),
          ap μ (cell_shut empty_slot refl),
          h.none,
        )

    one_less : OneMore (ppn_of F.layout r) (roots F shut) RS
    unfolding roots
    one_less =
        record {
          counts = λ x. less (λ l. times x (map (ppn_of F.layout) l)) (image_times (ppn_of F.layout) x);
          totals = λ g. less (λ l. total g (map (ppn_of F.layout) l)) (image_total g (ppn_of F.layout)) ∙ total_last g;
        }
      where
        total_last : (g : ℕ → ℕ) → total g (map (ppn_of F.layout) (open_registers shut)) + total g (ppn_of F.layout r ∷ []) ≡ total g (map (ppn_of F.layout) (open_registers shut)) + g (ppn_of F.layout r)
        total_last g = omega (arith, total_one_of g (ppn_of F.layout r))

    shut_slots : sound_slots F shut ≡ true
    unfolding sound_slots sdids
    shut_slots =
        let old = slots_of close_finds.0.good_slots in
        and_both
        (each_all (sound_register F) (open_registers shut) (λ x l. each_at (sound_register F) (open_registers slots) old.0 x (omega (arith, less (times x) (times_measure x)))))
        (times_distinct (map (sdid_of F.layout) (open_registers shut))
        (λ x. omega (arith, less (λ l. times x (map (sdid_of F.layout) l)) (image_times (sdid_of F.layout) x), distinct_times (sdids F slots) old.1 x)))

    -- closing keeps the table sound
    pub close_sound : sound F (close_slot F m slots s).memory (close_slot F m slots s).slots ≡ true
    unfolding close_slot sound
    close_sound =
        rw accepted
        (and_both shut_slots
        (from_sound F (roots F shut) m (less_sound F (ppn_of F.layout r) (roots F shut) RS one_less m (sound_at close_finds.0))))

    -- it writes no byte, so every domain reads as before
    pub close_memory : (close_slot F m slots s).memory ≡ m
    unfolding close_slot
    close_memory = rw accepted

    pub close_others : SamePermissions F slots (close_slot F m slots s).memory m
    close_others r domain address kind = ap (λ (n : List ℕ). reads F n r address kind) close_memory

  -- ---- open

  module _ (sdid : ℕ) (accepted : open_refusal F m slots s sdid ≡ 0) where
    abbrev root : ℕ
    root = head_d (free_pages F m RS) 0

    abbrev new : ℕ
    new = register_of F.layout sdid root

    abbrev wide : List Slot
    wide = set slots s new

    record Opens : Type 0 where
      found : Finds
      empty : is_open (slot_at slots s) ≡ false
      small : sdid < 64
      unheld : member sdid (sdids F slots) ≡ false
      some : 0 < length (free_pages F m RS)

    opens : Opens
    unfolding open_refusal
    opens =
        let a = first_none 0 _ _ accepted in
        let b = first_none 2 _ _ a.1 in
        let c = first_none 3 _ _ b.1 in
        let d = first_none 7 _ _ c.1 in
        let e = first_none 6 _ _ d.1 in
        let f = or_false (not (ltb s slot_count)) (is_open (slot_at slots s)) c.0 in
        let g = or_false (ltb max_sdid sdid) (member sdid (sdids F slots)) d.0 in
        let ne : length (free_pages F m RS) ≢ 0 = eqb-false (length (free_pages F m RS)) 0 e.0 in
        record {
          found = finds (not-false-true _ a.0) (not-false-true _ b.0) (not-false-true _ f.0);
          empty = f.1;
          small = omega (arith, ltb-false max_sdid sdid g.0);
          unheld = g.1;
          some = omega arith;
        }

    -- the new root was free
    root_free : (lent F root ≡ true) × (times root (used F m RS) ≡ 0)
    unfolding free_pages
    root_free = free_in F (used F m RS) root (head_times (free_pages F m RS) opens.some)

    unnamed : times root (pages_of F RS) + times root (links F m RS) ≡ 0
    unnamed = sym (used_measure F (times root) (times_measure root) m RS) ∙ root_free.1

    root_fits_lem : root < 2 ^ F.layout.info_bits
    root_fits_lem = lent_ppn F (ok_at opens.found) root root_free.0

    new_ppn : ppn_of F.layout new ≡ root
    new_ppn = register_ppn F.layout sdid root opens.small root_fits_lem

    new_sdid : sdid_of F.layout new ≡ sdid
    new_sdid = register_sdid F.layout sdid root opens.small root_fits_lem

    more : (μ : List ℕ → ℕ) → Measure μ → μ (open_registers wide) ≡ μ (open_registers slots) + μ (new ∷ [])
    unfolding slot_at
    more μ h =
        omega (
          arith,
          slot_change μ h slots s new (omega (arith, eight, opens.found.below)),
          ap μ (cell_shut (get_or slots s empty_slot) opens.empty),
          ap μ (cell_open new (register_open F.layout sdid root opens.small root_fits_lem)),
          h.none,
        )

    one_more_root : OneMore root RS (roots F wide)
    unfolding roots
    one_more_root =
        record {
          counts = λ x. more (λ l. times x (map (ppn_of F.layout) l)) (image_times (ppn_of F.layout) x)
              ∙ ap (λ (y : ℕ). times x (map (ppn_of F.layout) (open_registers slots)) + times x (y ∷ [])) new_ppn;
          totals = λ g. more (λ l. total g (map (ppn_of F.layout) l)) (image_total g (ppn_of F.layout))
              ∙ ap (λ (y : ℕ). total g (map (ppn_of F.layout) (open_registers slots)) + y) (total_one_of g (ppn_of F.layout new) ∙ ap g new_ppn);
        }

    new_register : sound_register F new ≡ true
    unfolding sound_register
    new_register =
        and_both (eq-eqb _ 1 (register_mode F.layout sdid root opens.small root_fits_lem)) (eq-eqb _ 0 (register_wpri F.layout sdid root opens.small root_fits_lem))

    wide_slots : sound_slots F wide ≡ true
    unfolding sound_slots sdids
    wide_slots =
        let old = slots_of opens.found.good_slots in
        and_both
        (each_all (sound_register F) (open_registers wide)
        (λ x l. split (ltb 0 (times x (open_registers slots)))
        (λ z. each_at (sound_register F) (open_registers slots) old.0 x (ltb-true 0 (times x (open_registers slots)) z))
        (λ z. subst (λ (y : ℕ). sound_register F y ≡ true)
        (sym (times_single x new (omega (arith, l, more (times x) (times_measure x), ltb-false 0 (times x (open_registers slots)) z)))) new_register)))
        (times_distinct (map (sdid_of F.layout) (open_registers wide))
        (λ x. let added = more (λ l. times x (map (sdid_of F.layout) l)) (image_times (sdid_of F.layout) x) in
        split (eqb x sdid)
        (λ z. let same : x ≡ sdid = eqb-true x sdid z in
        omega (
          arith,
          added,
          ap (λ (y : ℕ). times y (map (sdid_of F.layout) (open_registers slots))) same ∙ not_member sdid (sdids F slots) opens.unheld,
          ap₂ (λ (a b : ℕ). times a (b ∷ [])) same new_sdid ∙ times_one sdid,
        ))
        (λ z. omega (
          arith,
          added,
          distinct_times (sdids F slots) old.1 x,
          ap (λ (y : ℕ). times x (y ∷ [])) new_sdid ∙ times_other x sdid (eqb-false x sdid z),
        ))))

    -- the memory that opening leaves, and the slots
    opened_memory : (open_slot F m slots s sdid).memory ≡ zero_from F root root_free.0 F.layout.words 0 m
    unfolding open_slot open_at zero_from
    opened_memory = rw accepted

    opened_slots : (open_slot F m slots s sdid).slots ≡ wide
    unfolding open_slot open_at
    opened_slots = rw accepted

    -- opening keeps the table sound
    pub open_sound : sound F (open_slot F m slots s sdid).memory (open_slot F m slots s sdid).slots ≡ true
    unfolding sound
    open_sound =
        rw (opened_memory, opened_slots)
        (and_both wide_slots
        (from_sound F (roots F wide) _
        (more_sound F root RS (roots F wide) one_more_root (ok_at opens.found) m (sound_at opens.found) root_free.0 unnamed)))

    -- every domain that was open reads as before
    pub open_others : SamePermissions F slots (open_slot F m slots s sdid).memory m
    open_others r d address =
        same_read F slots (open_slot F m slots s sdid).memory m r address
        (ap (λ (k : List ℕ). walk F k (ppn_of F.layout r) (page_of address)) opened_memory
        ∙ more_walks F root RS (roots F wide) one_more_root (ok_at opens.found) m (sound_at opens.found) root_free.0 unnamed
        (ppn_of F.layout r) (page_of address) (domain_root F slots r d))

    -- the slot holds the new domain's register, and every address of it is of no permission
    pub open_new : (get_or (open_slot F m slots s sdid).slots s empty_slot ≡ new)
        × ((n : ℕ) → n < space F → walk F (open_slot F m slots s sdid).memory (ppn_of F.layout new) n ≡ perm 0)
    open_new = (
      ap (λ (k : List Slot). get_or k s empty_slot) opened_slots ∙ get_or-set_same slots s new empty_slot (omega (arith, eight, opens.found.below)),
      λ n u.
          ap₂ (λ (k : List ℕ) (p : ℕ). walk F k p n) opened_memory new_ppn
          ∙ new_walks F root RS (roots F wide) one_more_root (ok_at opens.found) m (sound_at opens.found) root_free.0 unnamed n u,
    )
