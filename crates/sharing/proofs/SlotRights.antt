-- What a slot may do with a page, as a permission: by it the page is open, may be written and is reached.
use mathlib.Core.Path.{◌≡◌, refl, sym}
use mathlib.Core.Bool.{Bool, true, false, ◌&&◌, ◌||◌, false≢true}
use mathlib.Core.List.{List}
use Prim.Native.Nat.{ℕ}
use Rattle.model.specs.Register.{ppn_of}
use Rattle.model.specs.Entry.{Found, perm, faults}
use Rattle.model.specs.Frame.{Frame}
use Rattle.model.specs.Walk.{walk}
use Rattle.model.specs.Access.{may, may_rows, column_of, write}
use Rattle.model.specs.Sound.{Slot, register, is_open}
use Rattle.model.specs.Forms.{perm_of}
use Rattle.model.specs.Calls.{slot_at}
use Rattle.model.specs.Apart.{Strength, strict, sharing, grants, grants_any, opens, writes, reaches, by_slot}
use Rattle.laws.proofs.Choices.{split}
use Rattle.sharing.specs.Crowds.{reach_of}
use Rattle.sharing.specs.Faults.{slot_grants}

-- a walk that faults grants what none does
by_number : (f : Found) → (grants_any f ≡ grants_any (perm (perm_of f))) × (grants f write ≡ grants (perm (perm_of f)) write)
unfolding grants_any grants perm_of may may_rows column_of
by_number (perm p) = (refl, refl)
by_number faults = (refl, refl)

module _ (F : Frame) (m : List ℕ) (slots : List Slot) (i page : ℕ) where
  abbrev given : ℕ
  given = slot_grants F m (slot_at slots i) page

  by_slot_lem : (has : Found → Bool) → has (perm 0) ≡ false → ((f : Found) → has f ≡ has (perm (perm_of f)))
      → (is_open (slot_at slots i) && has (walk F m (ppn_of F.layout (register (slot_at slots i))) page)) ≡ has (perm given)
  unfolding slot_grants
  by_slot_lem has none number =
      split (is_open (slot_at slots i))
      (λ z. rw z (number (walk F m (ppn_of F.layout (register (slot_at slots i))) page)))
      (λ z. rw z (sym none))

  pub slot_opens : by_slot F m slots (opens F m) i page ≡ grants_any (perm given)
  unfolding by_slot opens grants_any grants may may_rows column_of
  slot_opens = by_slot_lem grants_any refl (λ f. (by_number f).0)

  pub slot_writes : by_slot F m slots (writes F m) i page ≡ grants (perm given) write
  unfolding by_slot writes grants may may_rows column_of
  slot_writes = by_slot_lem (λ f. grants f write) refl (λ f. (by_number f).1)

  pub slot_reaches : (s : Strength) → by_slot F m slots (reaches F m s) i page ≡ reach_of s (perm given)
  unfolding by_slot reaches opens writes reach_of grants_any grants may may_rows column_of
  slot_reaches strict = by_slot_lem grants_any refl (λ f. (by_number f).0)
  slot_reaches sharing = by_slot_lem (λ f. grants f write) refl (λ f. (by_number f).1)

-- who reaches a page has it open
pub reach_open : (s : Strength) (f : Found) → reach_of s f ≡ true → grants_any f ≡ true
unfolding reach_of grants_any
reach_open strict f h = h
reach_open sharing f h = either (grants f Rattle.model.specs.Access.read) (grants f write) (grants f Rattle.model.specs.Access.execute) h
  where
    either : (a b c : Bool) → b ≡ true → (a || b || c) ≡ true
    either true b c h = refl
    either false true c h = refl
    either false false c h = absurd (false≢true h)
