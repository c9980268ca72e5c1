-- What a whole call leaves, in the words of demand 2: addresses and domains.
use mathlib.Core.Path.{◌≡◌, sym, ap, ◌∙◌, subst}
use mathlib.Core.Bool.{true, false}
use mathlib.Core.List.{List}
use Prim.Native.Nat.{ℕ, ◌+◌, ◌*◌, ◌-◌, ◌≤◌, ◌<◌}
use native.Mathlib.Omega.{arith}
use lib.Dec.{ltb}
use lib.ListN.{get_or}
use borrow.Author.Tests.{ltb-true, ltb-false}
use Rattle.model.specs.Layout.{gib_blocks}
use Rattle.model.specs.Register.{ppn_of}
use Rattle.model.specs.Entry.{perm}
use Rattle.model.specs.Frame.{page_of, space}
use Rattle.model.specs.Walk.{entry_at, walk}
use Rattle.model.specs.Sound.{roots, sound}
use Rattle.model.specs.Forms.{first_gib, forms, in_range, want_table}
use Rattle.model.specs.Calls.{register_for, root_of}
use Rattle.model.specs.Demands.{Done, IsForm, whole}
use Rattle.laws.proofs.Choices.{and_both, split}
use Rattle.theory.proofs.Tables.{from_sound}
use Rattle.theory.proofs.Walks.{outside_space}
use Rattle.theory.proofs.Finds.{after_inside, after_outside}
use Rattle.theory.proofs.Ranges.{address_inside, address_outside, address_space}
use Rattle.theory.proofs.Domains.{domain_root, domains_apart, same_read}
use Rattle.theory.proofs.Accepts.{Accept, own_domain, range_of, root_in_lem}
use Rattle.theory.proofs.WholeCall.{EditCall, here_of, ok_of, sound_of, whole_form, whole_others, whole_reads, whole_step}

module _ (E : EditCall) (m : List ℕ) (k : Accept E.F E.slots E.q m) where
  open E use {F, slots, q, low}

  abbrev W : List ℕ
  W = whole F slots q m

  abbrev R : ℕ
  R = root_of F slots q

  -- outside the address space every walk faults, before as after
  either_side : (r n : ℕ) → (n < space F → walk F W r n ≡ walk F m r n) → walk F W r n ≡ walk F m r n
  either_side r n h =
      split (ltb n (space F))
      (λ z. h (ltb-true n (space F) z))
      (λ z. let u : space F ≤ n = ltb-false n (space F) z in outside_space F W r n u ∙ sym (outside_space F m r n u))

  own_outside : (n : ℕ) → in_range q n ≡ false → walk F W R n ≡ walk F m R n
  own_outside n z =
      either_side R n
      (λ u. whole_reads E m k n u ∙ sym (after_outside F (ok_of E m k) (roots F slots) m (sound_of E m k) q R n (root_in_lem F slots q m k) u z))

  still_sound_lem : sound F W slots ≡ true
  unfolding sound
  still_sound_lem = and_both k.good_slots (from_sound F (roots F slots) W (whole_step E m k).sound)

  pub whole_done : Done F slots q m W
  unfolding root_of
  whole_done =
      record {
        inside = λ address lo hi.
            let r = range_of F slots q m k in
            whole_reads E m k (page_of address) (address_space F q r (ok_of E m k) address hi)
            ∙ ap perm (after_inside F (ok_of E m k) m q R (page_of address) (address_inside F q r address lo hi));
        outside = λ address out.
            same_read F slots W m (register_for slots q) address (own_outside (page_of address) (address_outside F q (range_of F slots q m k) address out));
        others = λ r d ne address.
            same_read F slots W m r address
            (either_side (ppn_of F.layout r) (page_of address)
            (λ u. whole_others E m k (ppn_of F.layout r) (page_of address) (domain_root F slots r d) u
            (λ e. domains_apart F slots (register_for slots q) r (own_domain F slots q m k) d (λ z. ne (sym z)) (here_of E m k) (sym e))));
        still_sound = still_sound_lem;
        formed = λ i h.
            let z : first_gib q * gib_blocks + i - first_gib q * gib_blocks ≡ i = omega arith in
            subst (λ (j : ℕ). IsForm (get_or (forms F m q R) j want_table) (entry_at F W R (first_gib q * gib_blocks + i))) z
            (whole_form E m k (first_gib q * gib_blocks + i) (omega arith, omega arith));
      }
