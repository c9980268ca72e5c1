-- From the stores that were made to the answer: a run of the whole list says how many were made and whether that was all, and that decides the
-- memory, the count and the fence.
use Rattle.std.specs.Prelude.{if◌then◌else◌}
use mathlib.Core.Path.{◌≡◌, refl, sym, ap, ap₂, ◌∙◌}
use mathlib.Core.Bool.{Bool, true, false, not, ◌&&◌}
use mathlib.Core.List.{List, [], ◌∷◌}
use Prim.Native.Nat.{ℕ, zero, suc, ◌+◌, ◌*◌, ◌-◌, ◌≤◌, ◌<◌}
use native.Mathlib.Omega.{arith}
use lib.Dec.{eqb, leb}
use lib.ListN.{length, take}
use lib.Seq.{get_or-take, length-take-le, take_all}
use borrow.Author.Tests.{le-leb, lt-leb, ne_eqb}
use Rattle.model.specs.Calls.{finished, root_of, store_list, store_list_with}
use Rattle.shapes.proofs.RunLaws.{run_whole, run_short}
use Rattle.sequence.specs.StoresMade.{fence_after, StoresMadeIs}
use Rattle.sequence.specs.Prepared.{whole_list}
use Rattle.shapes.specs.Run.{all_made, limit_reached, run_from, run}
use Rattle.types.specs.Views.{fence_of}
use Rattle.types.specs.declared.Budget.{Budget}
use Rattle.types.specs.declared.Fence as code
use Rattle.laws.proofs.Choices.{split}
use Rattle.model.specs.Fence.{no_fence, domain_fence, address_fence, in_root, one_l1_store, fence_for}
use Rattle.model.specs.Forms.{Request, first_gib, forms}
use Rattle.model.specs.Frame.{Frame}
use Rattle.model.specs.Layout.{gib_blocks, page_bytes}
use Rattle.model.specs.Sound.{roots, free_pages}
use Rattle.model.specs.Stores.{Store, apply, new_pages}
use Rattle.theory.proofs.PagesTaken.{same_pages}

-- the last of one store
pub last_of : (limit : ℕ) (s : Store) (m : List ℕ) (l : Budget) (n : List ℕ) → run (record { more = limit; last = 0 }) (s ∷ []) m ≡ all_made l n → l.last ≡ s.at
unfolding run_from
last_of zero s m l n e = absurd (let z : ◌≡◌ {A = ℕ} 0 1 = cc in omega arith)
last_of (suc k) s m l n e = let x : record { more = k; last = s.at } ≡ l = cc in sym (ap (λ (b : Budget). b.last) x)

module _ (F : Frame) (q : Request) (root sdid : ℕ) (list : List Store) (limit : ℕ) (m : List ℕ) where
  -- all were made
  module _ (l : Budget) (m' : List ℕ) (e : run (record { more = limit; last = 0 }) list m ≡ all_made l m') where
    pub all_fits : length list + l.more ≡ limit
    all_fits = (run_whole (record { more = limit; last = 0 }) list m l m' e).0

    pub all_memory : m' ≡ apply (take limit list) m
    all_memory = (run_whole (record { more = limit; last = 0 }) list m l m' e).1 ∙ ap (λ (x : List Store). apply x m) (sym (take_all limit list (omega (arith, all_fits))))

    pub all_count : limit - l.more ≡ length (take limit list)
    all_count = let z : limit - l.more ≡ length list = omega (arith, all_fits) in z ∙ ap (λ (x : List Store). length x) (sym (take_all limit list (omega (arith, all_fits))))

    pub all_true : true ≡ leb (length list) limit
    all_true = sym (le-leb (length list) limit (omega (arith, all_fits)))

    one_here : (x : List Store) → x ≡ list → (eqb (length x) 1 && (true && not (in_root F root l.last))) ≡ one_l1_store F root x
    unfolding one_l1_store
    one_here [] z = refl
    one_here (s ∷ []) z = ap (λ (k : ℕ). not (in_root F root k)) (last_of limit s m l m' (ap (λ (y : List Store). run (record { more = limit; last = 0 }) y m) z ∙ e))
    one_here (s ∷ t ∷ ss) z = rw (ne_eqb (suc (suc (length ss))) 1 (λ y. omega (arith, y)))

    pub all_fence : fence_after F q root sdid (limit - l.more) true l.last ≡ fence_for F root q sdid list limit
    unfolding fence_after fence_for
    all_fence =
        let z : limit - l.more ≡ length list = omega (arith, all_fits) in
        ap (λ (c : ℕ). if eqb c 0 then no_fence else if eqb q.size page_bytes && (eqb c 1 && (true && not (in_root F root l.last))) then address_fence q.start sdid else domain_fence sdid) z
        ∙ ap₂ (λ (c : ℕ) (o : Bool). if eqb c 0 then no_fence else if eqb q.size page_bytes && o then address_fence q.start sdid else domain_fence sdid)
        (sym z ∙ all_count) (one_here list refl)

    pub all_is : (fence : code.Fence) → fence_of fence ≡ fence_after F q root sdid (limit - l.more) true l.last
        → StoresMadeIs F q root sdid list limit m m' (record { count = limit - l.more; all = true; fence = fence })
    all_is fence z = record { memory = all_memory; count = all_count; all = all_true; fence = z ∙ all_fence }

  -- the limit cut them
  module _ (m' : List ℕ) (e : run (record { more = limit; last = 0 }) list m ≡ limit_reached m') where
    few : limit < length list
    few = (run_short (record { more = limit; last = 0 }) list m m' e).0

    pub cut_memory : m' ≡ apply (take limit list) m
    cut_memory = (run_short (record { more = limit; last = 0 }) list m m' e).1

    pub cut_count : limit ≡ length (take limit list)
    cut_count = sym (length-take-le limit list (omega (arith, few)))

    pub cut_false : false ≡ leb (length list) limit
    cut_false = sym (lt-leb (length list) limit few)

    many : (x : List Store) → 1 < length x → one_l1_store F root x ≡ false
    unfolding one_l1_store
    many [] h = refl
    many (s ∷ []) h = absurd (omega arith)
    many (s ∷ t ∷ ss) h = refl

    no_and : (a b : Bool) → (a && (b && false)) ≡ (a && false)
    no_and true true = refl
    no_and true false = refl
    no_and false b = refl

    pub cut_fence : fence_after F q root sdid limit false 0 ≡ fence_for F root q sdid list limit
    unfolding fence_after fence_for
    cut_fence =
        split (eqb limit 0)
        (λ z. rw (sym cut_count, z))
        (λ z. rw (sym cut_count, z, many list (omega (arith, few, borrow.Author.Tests.eqb-false limit 0 z)))
        (ap (λ (b : Bool). if b then address_fence q.start sdid else domain_fence sdid) (no_and (eqb q.size page_bytes) (eqb limit 1))))

    pub cut_is : (fence : code.Fence) → fence_of fence ≡ fence_after F q root sdid limit false 0
        → StoresMadeIs F q root sdid list limit m m' (record { count = limit; all = false; fence = fence })
    cut_is fence z = record { memory = cut_memory; count = cut_count; all = cut_false; fence = z ∙ cut_fence }

-- ---- the list in the model's own words: the two lowest free pages stand for all

module _ (F : Frame) (m slots : List ℕ) (q : Request) where
  abbrev R : ℕ
  R = root_of F slots q

  pub list_is : new_pages F m R (first_gib q * gib_blocks) (forms F m q R) ≤ 2
      → whole_list F m q R (take 2 (free_pages F m (roots F slots))) ≡ store_list F m slots q
  unfolding store_list store_list_with finished
  list_is few =
      same_pages F m q R (forms F m q R) (first_gib q * gib_blocks) (take 2 (free_pages F m (roots F slots))) (free_pages F m (roots F slots))
      (λ i u. get_or-take 2 (free_pages F m (roots F slots)) i 0 (omega arith))
