-- An accepted edit, as facts.
use mathlib.Core.Path.{◌≡◌, refl, ap}
use mathlib.Core.Bool.{Bool, true, false, not, ◌&&◌, ◌||◌}
use mathlib.Core.List.{List, [], ◌∷◌}
use Prim.Native.Nat.{ℕ, suc, ◌*◌, ◌≤◌, ◌<◌}
use native.Mathlib.Omega.{arith}
use lib.Dec.{eqb, ltb}
use lib.ListN.{length}
use borrow.Author.Tests.{ltb-false, le-ltb}
use Rattle.model.specs.Frame.{Frame, frame_ok}
use Rattle.model.specs.Sound.{Slot, free_pages, is_open, roots, sound, sound_slots, sound_table}
use Rattle.model.specs.Forms.{Request, first_gib, forms}
use Rattle.model.specs.Stores.{new_pages}
use Rattle.model.specs.Calls.{bad_range, edit_refusal, edit_refusal_with, finished, first_met, meets_lent, register_for, root_of, slot_at, write_execute}
use Rattle.model.specs.Demands.{Domain}
use Rattle.laws.proofs.Choices.{and_both, and_true, not-false-true, or_false}
use Rattle.laws.proofs.Times.{times}
use Rattle.theory.proofs.Ranges.{GoodRange, good_range}
use Rattle.theory.proofs.Domains.{domain_root, open_domain}

-- ---- refusals in order

pub first_none : (n : ℕ) (t : Bool) (rest : List (ℕ × Bool)) → first_met ((suc n, t) ∷ rest) ≡ 0 → (t ≡ false) × (first_met rest ≡ 0)
unfolding first_met
first_none n true rest h = absurd (omega arith)
first_none n false rest h = (refl, h)

none_first : (n : ℕ) (t : Bool) (rest : List (ℕ × Bool)) → t ≡ false → first_met rest ≡ 0 → first_met ((n, t) ∷ rest) ≡ 0
unfolding first_met
none_first n t rest e h = rw e h

first_empty : first_met [] ≡ 0
unfolding first_met
first_empty = refl

module _ (F : Frame) (slots : List Slot) (q : Request) where
  abbrev ro : ℕ
  ro = root_of F slots q

  abbrev rs : List ℕ
  rs = roots F slots

  abbrev b0 : ℕ
  b0 = first_gib q * 32

  pub record Accept (m : List ℕ) : Type 0 where
    pub frame : frame_ok F m ≡ true
    pub good_slots : sound_slots F slots ≡ true
    pub good_table : sound_table F m rs ≡ true
    pub slot : (not (ltb q.slot 8) || not (is_open (slot_at slots q.slot))) ≡ false
    pub range : bad_range F q ≡ false
    pub no_write_execute : write_execute q ≡ false
    pub apart : (not (eqb q.permission 0) && meets_lent F q) ≡ false
    pub room : new_pages F m ro b0 (forms F m q ro) ≤ length (free_pages F m rs)

  pub to_accept : (m : List ℕ) → edit_refusal F m slots q ≡ 0 → Accept m
  unfolding edit_refusal edit_refusal_with finished sound
  to_accept m h =
      let a = first_none 0 _ _ h in
      let b = first_none 2 _ _ a.1 in
      let c = first_none 3 _ _ b.1 in
      let d = first_none 4 _ _ c.1 in
      let w = first_none 9 _ _ d.1 in
      let e = first_none 5 _ _ w.1 in
      let f = first_none 6 _ _ e.1 in
      let s = and_true (sound_slots F slots) (sound_table F m rs) (not-false-true _ b.0) in
      record {
        frame = not-false-true _ a.0;
        good_slots = s.0;
        good_table = s.1;
        slot = c.0;
        range = d.0;
        no_write_execute = w.0;
        apart = e.0;
        room = ltb-false _ _ f.0;
      }

  pub from_accept : (m : List ℕ) → Accept m → edit_refusal F m slots q ≡ 0
  unfolding edit_refusal edit_refusal_with finished sound
  from_accept m k =
      none_first 1 _ _ (ap not k.frame)
      (none_first 3 _ _ (ap not (and_both k.good_slots k.good_table))
      (none_first 4 _ _ k.slot
      (none_first 5 _ _ k.range
      (none_first 10 _ _ k.no_write_execute
      (none_first 6 _ _ k.apart
      (none_first 7 _ _ (le-ltb _ _ k.room) first_empty))))))

  module _ (m : List ℕ) (k : Accept m) where
    pub range_of : GoodRange F q
    range_of = good_range F q k.range

    -- the edited domain is a domain, and its root is among the roots
    pub own_domain : Domain F slots (register_for slots q)
    unfolding register_for slot_at
    own_domain = open_domain slots q.slot (not-false-true _ (or_false (not (ltb q.slot 8)) (not (is_open (slot_at slots q.slot))) k.slot).1)

    pub root_in_lem : 0 < times ro rs
    unfolding root_of
    root_in_lem = domain_root F slots (register_for slots q) own_domain
