-- What is known of an accepted edit, from the memory that it found: its table is sound, its range lies inside, its pages are free; and its whole
-- list is ahead.
use mathlib.Core.Path.{◌≡◌, sym, ap, ap₂, ◌∙◌, subst}
use mathlib.Core.Bool.{true}
use mathlib.Core.List.{List}
use Prim.Native.Nat.{ℕ, ◌+◌, ◌*◌, ◌^◌, ◌≤◌, ◌<◌, min, ◌%◌}
use native.Mathlib.Omega.{arith}
use lib.ListN.{length, take, drop, length-take, take-append-drop}
use Rattle.sequence.specs.Prepared.{Prepared, whole_list}
use Rattle.shapes.specs.Ahead.{Ahead}
use Rattle.shapes.proofs.Order.{ahead_of, ahead_start}
use Rattle.laws.proofs.Choices.{and_true}
use Rattle.model.specs.Forms.{Request, forms, first_gib, gibs}
use Rattle.model.specs.Frame.{Frame, lent, blocks, space, bounds_ok, frame_ok}
use Rattle.model.specs.Stores.{new_pages}
use Rattle.model.specs.Walk.{entry_page}
use Rattle.model.specs.Layout.{page_bytes, gib_blocks}
use lib.Pow.{pow_mono}
use Rattle.shapes.proofs.Shape.{Shape}
use Rattle.sequence.proofs.CountAndFence.{list_is}
use Rattle.laws.proofs.Sums.{times_measure}
use Rattle.theory.proofs.PagesTaken.{two_pages}
use Rattle.laws.proofs.Times.{times, times_append}
use Rattle.model.specs.Calls.{root_of, store_list}
use Rattle.model.specs.Sound.{roots, free_pages, used}
use Rattle.theory.proofs.Accepts.{Accept, to_accept, range_of, root_in_lem}
use Rattle.theory.proofs.Frames.{Ok, blocks_pos}
use Rattle.theory.proofs.Free.{free_in, free_once}
use Rattle.theory.proofs.Ranges.{touched_inside}
use Rattle.theory.proofs.OneStore.{root_lent as page-lent}
use Rattle.theory.proofs.Tables.{Sound}
use Rattle.theory.proofs.Used.{pages_of, links, used_measure}
use Rattle.theory.proofs.WholeCall.{EditCall, ok_of, sound_of, here_of}

pub record Facts (F : Frame) (m0 : List ℕ) (q : Request) (root : ℕ) (free : List ℕ) : Type 0 where
  pub shape : Shape F.layout
  pub low : q.permission < 4
  pub rs : List ℕ
  pub ok : Ok F
  pub sound : Sound F rs m0
  pub here : times root rs ≡ 1
  pub inside : first_gib q * gib_blocks + gibs q * gib_blocks ≤ blocks F
  pub ends : q.start + q.size ≤ 2 ^ F.layout.max_paw
  pub some : 0 < q.size
  pub starts : q.start % page_bytes ≡ 0
  pub whole : q.size % page_bytes ≡ 0
  pub unused : (x : ℕ) → 0 < times x free → (lent F x ≡ true) × (times x (pages_of F rs) + times x (links F m0 rs) ≡ 0)
  pub once : (x : ℕ) → times x free ≤ 1
  pub room : new_pages F m0 root (first_gib q * gib_blocks) (forms F m0 q root) ≤ length free
  pub few : length free ≤ 2
  -- its whole list is ahead
  pub start : Ahead m0 (whole_list F m0 q root free)

module _ (F : Frame) (sh : Shape F.layout) (m0 : List ℕ) (q : Request) (root : ℕ) (free : List ℕ) where
  -- the pages of the front of a list are pages of the list
  take_times : (n : ℕ) (x : ℕ) (l : List ℕ) → times x (take n l) ≤ times x l
  take_times n x l = omega (arith, sym (times_append x (take n l) (drop n l)) ∙ ap (times x) (take-append-drop n l))

  -- the list that the code makes is the model's
  pub accepted_list : (a : Prepared F m0 q root free) → whole_list F m0 q root free ≡ store_list F m0 a.slots q
  accepted_list a =
      let k : Accept F a.slots q m0 = to_accept F a.slots q m0 a.none in
      let E : EditCall = record { F = F; lawful = sh.lawful; slots = a.slots; q = q; low = a.small } in
      ap₂ (λ (r : ℕ) (fr : List ℕ). whole_list F m0 q r fr) a.is_root a.are_free
      ∙ list_is F m0 a.slots q
      (two_pages F (ok_of E m0 k) q m0 (root_of F a.slots q) a.small (range_of F a.slots q m0 k) (roots F a.slots) (sound_of E m0 k) (root_in_lem F a.slots q m0 k) a.typed)

  pub facts : Prepared F m0 q root free → Facts F m0 q root free
  unfolding free_pages space
  facts a =
      let k : Accept F a.slots q m0 = to_accept F a.slots q m0 a.none in
      let E : EditCall = record { F = F; lawful = sh.lawful; slots = a.slots; q = q; low = a.small } in
      let rs : List ℕ = roots F a.slots in
      let taken : List ℕ = used F m0 rs in
      let ok : Ok F = ok_of E m0 k in
      let s : Sound F rs m0 = sound_of E m0 k in
      let range = range_of F a.slots q m0 k in
      let in_free : (x : ℕ) → times x free ≤ times x (free_pages F m0 rs)
      = λ x. subst (λ (fr : List ℕ). times x fr ≤ times x (free_pages F m0 rs)) (sym a.are_free) (take_times 2 x (free_pages F m0 rs)) in
      let two : new_pages F m0 (root_of F a.slots q) (first_gib q * gib_blocks) (forms F m0 q (root_of F a.slots q)) ≤ 2
      = two_pages F ok q m0 (root_of F a.slots q) a.small range rs s (root_in_lem F a.slots q m0 k) a.typed in
      let long : length free ≡ min 2 (length (free_pages F m0 rs)) = ap (λ (l : List ℕ). length l) a.are_free ∙ length-take 2 (free_pages F m0 rs) in
      record {
        shape = sh;
        low = a.small;
        rs = rs;
        ok = ok;
        sound = s;
        here = ap (λ (r : ℕ). times r rs) a.is_root ∙ here_of E m0 k;
        inside = touched_inside F q range ok;
        ends = omega (arith, range.ends, pow_mono {i = F.paw} {j = F.layout.max_paw} ok.paw_high);
        starts = range.start_page;
        whole = range.size_page;
        some = range.some;
        unused = λ x l. let g = free_in F taken x (omega (arith, in_free x)) in (g.0, sym (used_measure F (times x) (times_measure x) m0 rs) ∙ g.1);
        once = λ x. omega (arith, in_free x, free_once F taken x);
        room = subst (λ (r : ℕ). new_pages F m0 r (first_gib q * gib_blocks) (forms F m0 q r) ≤ length free) (sym a.is_root) (omega (arith, two, k.room, long));
        few = omega (arith, long);
        start =
            ahead_of (sym (accepted_list a))
            (ahead_start (record { F = F; slots = a.slots; q = q; found = m0; typed = record { words = a.typed; permission = a.small }; accepted = a.none }));
      }

  pub root_lent : Prepared F m0 q root free → lent F root ≡ true
  unfolding entry_page
  root_lent a = let k = facts a in page-lent F k.ok k.rs m0 k.sound root 0 (omega (arith, k.here)) (blocks_pos F k.ok)

  pub bounds_in : Prepared F m0 q root free → bounds_ok F ≡ true
  unfolding frame_ok
  bounds_in a = (and_true (bounds_ok F) _ (to_accept F a.slots q m0 a.none).frame).0
