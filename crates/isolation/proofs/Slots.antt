-- Slots and the registers of their domains: a domain is that of a slot, a register in two slots is counted twice, and one slot changes.
use mathlib.Core.Path.{◌≡◌, sym, subst}
use mathlib.Core.Bool.{true, false≢true}
use mathlib.Core.Logic.{◌⊎◌, inl, inr, ⊎_elim}
use mathlib.Core.List.Memᴰ
use mathlib.Core.List.{List, [], ◌∷◌, map, Memᴰ}
use Prim.Native.Nat.{ℕ, zero, suc, ◌≤◌, ◌<◌}
use native.Mathlib.Omega.{arith}
use lib.ListN.{length, set}
use Rattle.model.specs.Sound.{Slot, is_open, open_registers}
use Rattle.model.specs.Calls.{slot_at}
use Rattle.laws.proofs.Choices.{split}
use Rattle.laws.proofs.Times.{times, times_append, times_here}
use Rattle.theory.proofs.Domains.{map_times, open_domain}

-- a domain is that of a slot
pub slot_of : (ss : List Slot) (r : ℕ) → Memᴰ r (open_registers ss) → (i : ℕ) × (i < length ss) × (slot_at ss i ≡ r) × (is_open r ≡ true)
unfolding open_registers slot_at
slot_of [] r h = absurd (Memᴰ.not-nil h)
slot_of (s ∷ ss) r h =
    split (is_open s)
    (λ z. ⊎_elim
    (λ e. (0, omega arith, sym e, subst (λ (k : ℕ). is_open k ≡ true) (sym e) z))
    (λ t. later (slot_of ss r t))
    (Memᴰ.cases_cons (rw z at h)))
    (λ z. later (slot_of ss r (rw z at h)))
  where
    later : (i : ℕ) × (i < length ss) × (slot_at ss i ≡ r) × (is_open r ≡ true)
        → (i : ℕ) × (i < length (s ∷ ss)) × (slot_at (s ∷ ss) i ≡ r) × (is_open r ≡ true)
    later (i, l, e, o) = (suc i, omega arith, e, o)

-- a register in two slots is counted twice
pub counted_twice : (f : ℕ → ℕ) (ss : List Slot) (i j : ℕ) → i < j → is_open (slot_at ss i) ≡ true → slot_at ss i ≡ slot_at ss j
    → 2 ≤ times (f (slot_at ss i)) (map f (open_registers ss))
unfolding open_registers slot_at is_open
counted_twice f [] i j l o e = absurd (false≢true o)
counted_twice f (s ∷ ss) zero zero l o e = absurd (omega arith)
counted_twice f (s ∷ ss) zero (suc j) l o e =
    let k = open_domain ss j (subst (λ (x : ℕ). is_open x ≡ true) e o) in
    let one = subst (λ (x : ℕ). 0 < times (f x) (map f (open_registers ss))) (sym e) (map_times f _ (open_registers ss) k) in
    rw o (omega (arith, times_here (f s) (map f (open_registers ss)), one))
counted_twice f (s ∷ ss) (suc i) zero l o e = absurd (omega arith)
counted_twice f (s ∷ ss) (suc i) (suc j) l o e =
    let k = counted_twice f ss i j (omega arith) o e in
    split (is_open s)
    (λ z. rw z (omega (arith, k, times_append (f (slot_at ss i)) (f s ∷ []) (map f (open_registers ss)))))
    (λ z. rw z k)

-- a register of a slot list with one slot changed is that slot's or was there before
pub slot_domain : (ss : List Slot) (i v r : ℕ) → Memᴰ r (open_registers (set ss i v)) → ((r ≡ v) × (is_open v ≡ true)) ⊎ Memᴰ r (open_registers ss)
unfolding open_registers
slot_domain [] i v r h = inr h
slot_domain (s ∷ ss) zero v r h =
    split (is_open v)
    (λ z. ⊎_elim (λ e. inl (e, z)) (λ t. inr (later t)) (Memᴰ.cases_cons (rw z at h)))
    (λ z. inr (later (rw z at h)))
  where
    later : Memᴰ r (open_registers ss) → Memᴰ r (open_registers (s ∷ ss))
    later k = split (is_open s) (λ z. rw z (Memᴰ.tail k)) (λ z. rw z k)
slot_domain (s ∷ ss) (suc i) v r h =
    split (is_open s)
    (λ z. ⊎_elim
    (λ e. inr (rw z (Memᴰ.head e)))
    (λ t. ⊎_elim inl (λ k. inr (rw z (Memᴰ.tail k))) (slot_domain ss i v r t))
    (Memᴰ.cases_cons (rw z at h)))
    (λ z. ⊎_elim inl (λ k. inr (rw z k)) (slot_domain ss i v r (rw z at h)))
