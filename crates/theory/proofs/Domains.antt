-- Domains, their registers and their roots: an open slot's register is among them, and two domains have two roots.
use mathlib.Core.Path.{◌≡◌, refl, sym, ap, ◌∙◌, subst}
use mathlib.Core.Bool.{true, false≢true}
use mathlib.Core.Logic.{◌≢◌, ⊎_elim}
use mathlib.Core.List.Memᴰ
use mathlib.Core.List.{List, [], ◌∷◌, map, Memᴰ}
use Prim.Native.Nat.{ℕ, zero, suc, ◌+◌, ◌≤◌, ◌<◌}
use native.Mathlib.Omega.{arith}
use lib.ListN.{get_or}
use Rattle.model.specs.Register.{ppn_of}
use Rattle.model.specs.Entry.{Found}
use Rattle.model.specs.Frame.{Frame, page_of}
use Rattle.model.specs.Walk.{walk}
use Rattle.model.specs.Access.{judge}
use Rattle.model.specs.Lookup.{reads}
use Rattle.model.specs.Sound.{Slot, empty_slot, is_open, open_registers, register, roots}
use Rattle.model.specs.Demands.{Domain, SameAt}
use Rattle.laws.proofs.Choices.{split}
use Rattle.laws.proofs.Times.{times, times_append, times_here, times_one}

-- ---- a member of a list, and the image of the list

pub map_times : (f : ℕ → ℕ) (r : ℕ) (l : List ℕ) → Memᴰ r l → 0 < times (f r) (map f l)
map_times f r [] h = absurd (Memᴰ.not-nil h)
map_times f r (x ∷ xs) h =
    ⊎_elim
    (λ e. subst (λ (y : ℕ). 0 < times (f r) (f y ∷ map f xs)) e (omega (arith, times_here (f r) (map f xs))))
    (λ k. omega (arith, times_append (f r) (f x ∷ []) (map f xs), map_times f r xs k))
    (Memᴰ.cases_cons h)

-- two members of one image name it twice
pub map_twice : (f : ℕ → ℕ) (r r' : ℕ) (l : List ℕ) → Memᴰ r l → Memᴰ r' l → r ≢ r' → f r ≡ f r' → 2 ≤ times (f r) (map f l)
map_twice f r r' [] h h' ne e = absurd (Memᴰ.not-nil h)
map_twice f r r' (x ∷ xs) h h' ne e =
    ⊎_elim
    (λ a. ⊎_elim
    (λ b. absurd (ne (a ∙ sym b)))
    (λ b. omega (arith, here (ap f a), there, subst (λ (y : ℕ). 0 < times y (map f xs)) (sym e) (map_times f r' xs b)))
    (Memᴰ.cases_cons h'))
    (λ a. ⊎_elim
    (λ b. omega (arith, here (e ∙ ap f b), there, map_times f r xs a))
    (λ b. omega (arith, there, map_twice f r r' xs a b ne e))
    (Memᴰ.cases_cons h'))
    (Memᴰ.cases_cons h)
  where
    there : times (f r) (f x ∷ map f xs) ≡ times (f r) (f x ∷ []) + times (f r) (map f xs)
    there = times_append (f r) (f x ∷ []) (map f xs)

    here : f r ≡ f x → times (f r) (f x ∷ []) ≡ 1
    here z = ap (λ (y : ℕ). times (f r) (y ∷ [])) (sym z) ∙ times_one (f r)

-- ---- the domain of an open slot

pub open_domain : (ss : List Slot) (i : ℕ) → is_open (get_or ss i empty_slot) ≡ true → Memᴰ (register (get_or ss i empty_slot)) (open_registers ss)
unfolding open_registers is_open
open_domain [] i h = absurd (false≢true h)
open_domain (s ∷ ss) zero h = rw h (Memᴰ.head refl)
open_domain (s ∷ ss) (suc i) h = split (is_open s) (λ z. rw z (Memᴰ.tail (open_domain ss i h))) (λ z. rw z (open_domain ss i h))

module _ (F : Frame) (slots : List Slot) where
  pub domain_root : (r : ℕ) → Domain F slots r → 0 < times (ppn_of F.layout r) (roots F slots)
  unfolding roots
  domain_root r h = map_times (ppn_of F.layout) r (open_registers slots) h

  -- where no root stands twice, two domains have two roots
  pub domains_apart : (r r' : ℕ) → Domain F slots r → Domain F slots r' → r ≢ r' → times (ppn_of F.layout r) (roots F slots) ≡ 1
      → ppn_of F.layout r ≢ ppn_of F.layout r'
  unfolding roots
  domains_apart r r' h h' ne once e = omega (arith, once, map_twice (ppn_of F.layout) r r' (open_registers slots) h h' ne e)

  -- the same walk reads the same for every kind of access
  pub same_read : (m m' : List ℕ) (r address : ℕ) → walk F m (ppn_of F.layout r) (page_of address) ≡ walk F m' (ppn_of F.layout r) (page_of address) → SameAt F slots m m' r address
  unfolding reads
  same_read m m' r address e kind = ap (λ (f : Found). judge f kind) e
