-- A block that gets a new L1 page: its entries one after another. Their words follow from the block's entry, which names no page, and so not
-- from the memory as it stands: the entries that are left decide the whole run.
use mathlib.Core.Path.{◌≡◌, refl, sym, ap, ◌∙◌}
use mathlib.Core.Bool.{true}
use mathlib.Core.List.{List, [], ◌∷◌, ◌++◌}
use Prim.Native.Nat.{ℕ, ◌+◌, ◌-◌, ◌≤◌}
use native.Mathlib.Omega.{arith}
use lib.ListN.{length}
use Rattle.laws.proofs.Lists.{joined_append}
use Rattle.model.specs.Entry.{Entry}
use Rattle.model.specs.Forms.{Request, l1_word}
use Rattle.model.specs.Frame.{Frame, lent}
use Rattle.model.specs.Stores.{Store, store_at}
use Rattle.types.specs.declared.Budget.{Budget}
use Rattle.shapes.specs.Ahead.{Ahead}
use Rattle.shapes.specs.Pages.{Plain, new_run}
use Rattle.shapes.specs.Rooted.{Good}
use Rattle.shapes.specs.Run.{Out, all_made, limit_reached, run}
use Rattle.shapes.proofs.Order.{ahead_of, Remaining, remaining_start, remaining_end, remaining_ahead, remaining_next, remaining_cut}
use Rattle.shapes.proofs.PageLaws.{run_plain}
use Rattle.shapes.proofs.Places.{lent_same, good_same}
use Rattle.shapes.proofs.RunLaws.{joined_end}

-- the stores of a run, from a memory of the same length
pub run_same : (over : ℕ → Frame) (q : Request) (e : Entry) (b new : ℕ) (m m0 : List ℕ) → Plain e → length m ≡ length m0
    → (n i : ℕ) → new_run (over (length m)) m q e b new n i ≡ new_run (over (length m0)) m0 q e b new n i
run_same over q e b new m m0 pl len n i = ap (λ (X : Frame). new_run X m q e b new n i) (ap over len) ∙ run_plain (over (length m0)) q b m0 m e pl new n i

-- the entries from .. i are done, and the rest up to `to` decides the whole
pub record New (over : ℕ → Frame) (q : Request) (e : Entry) (b new : ℕ) (m0 : List ℕ) (left : Budget) (from to : ℕ) (m : List ℕ) (more : Budget) (i : ℕ) : Type 0 where
  pub plain : Plain e
  pub past : from ≤ i
  pub few : i ≤ to
  pub size : length m ≡ length m0
  pub remaining : Remaining left m0 (new_run (over (length m0)) m0 q e b new (to - from) from) more m (new_run (over (length m0)) m0 q e b new (to - i) i)

module _ {over : ℕ → Frame} {q : Request} {e : Entry} {b new : ℕ} {m0 : List ℕ} {left : Budget} {from to : ℕ} where
  pub new_start : Plain e → from ≤ to → Ahead m0 (new_run (over (length m0)) m0 q e b new (to - from) from) → New over q e b new m0 left from to m0 left from
  new_start pl h a = record { plain = pl; past = omega arith; few = h; size = refl; remaining = remaining_start refl a }

  module _ {m : List ℕ} {more : Budget} {i : ℕ} (s : New over q e b new m0 left from to m more i) where
    abbrev part : ℕ → ℕ → List Store
    part n i = new_run (over (length m0)) m0 q e b new n i

    -- what is asked of the block's entry and of the new page holds still
    pub new_good : Good (over (length m0)) m0 e → Good (over (length m)) m e
    new_good g = good_same over m0 m s.size e s.plain g

    pub new_lent : lent (over (length m0)) new ≡ true → lent (over (length m)) new ≡ true
    new_lent h = lent_same over m0 m s.size new h

    -- n entries of the rest
    module _ (n : ℕ) (h : i + n ≤ to) where
      same_part : new_run (over (length m)) m q e b new n i ≡ part n i
      same_part = run_same over q e b new m m0 s.plain s.size n i

      parts : part (to - i) i ≡ part n i ++ part (to - (i + n)) (i + n)
      parts =
          let u : to - i ≡ n + (to - (i + n)) = omega arith in
          ap (λ (k : ℕ). part k i) u ∙ joined_append (λ k. store_at (over (length m0)) new k (l1_word (over (length m0)) m0 q e b k) ∷ []) n (to - (i + n)) i

      pub new_ahead : Ahead m (new_run (over (length m)) m q e b new n i)
      new_ahead = ahead_of (sym same_part) (remaining_ahead s.remaining (part n i) _ parts)

      -- they are stored
      step : {o : Out} → o ≡ run more (new_run (over (length m)) m q e b new n i) m → o ≡ run more (part n i) m
      step said = said ∙ ap (λ (ss : List Store). run more ss m) same_part

      pub new_cut : {m' : List ℕ} → limit_reached m' ≡ run more (new_run (over (length m)) m q e b new n i) m → limit_reached m' ≡ run left (part (to - from) from) m0
      new_cut said = remaining_cut s.remaining (part n i) _ parts (step said)

      pub new_next : {l : Budget} {m' : List ℕ} → all_made l m' ≡ run more (new_run (over (length m)) m q e b new n i) m → length m' ≡ length m
          → New over q e b new m0 left from to m' l (i + n)
      new_next said len =
          record {
            plain = s.plain;
            past = omega (arith, s.past);
            few = h;
            size = len ∙ s.size;
            remaining = remaining_next s.remaining (part n i) _ parts (step said);
          }

    -- those up to place j
    pub new_until : (j : ℕ) → i ≤ j → j ≤ to → {l : Budget} {m' : List ℕ} → all_made l m' ≡ run more (new_run (over (length m)) m q e b new (j - i) i) m → length m' ≡ length m
        → New over q e b new m0 left from to m' l j
    new_until j lo hi said len = let z : i + (j - i) ≡ j = omega arith in rw z at (new_next (j - i) (omega arith) said len)

    -- all that are left
    pub new_rest : {o : Out} → o ≡ run more (new_run (over (length m)) m q e b new (to - i) i) m → o ≡ run left (part (to - from) from) m0
    new_rest said = let z : i + (to - i) ≤ to = omega (arith, s.few) in step (to - i) z said ∙ sym s.remaining.same

    pub new_end : to ≤ i → all_made more m ≡ run left (part (to - from) from) m0
    new_end h =
        let z : to - i ≡ 0 = omega arith in
        remaining_end s.remaining (joined_end (λ k. store_at (over (length m0)) new k (l1_word (over (length m0)) m0 q e b k) ∷ []) (to - i) i z)
