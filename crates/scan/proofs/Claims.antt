-- Marks: a pass that takes marks away one after the other finds whether the places are distinct, and leaves all the others.
use Rattle.std.specs.Prelude.{if◌then◌else◌}
use mathlib.Core.Path.{◌≡◌, refl, sym, ap, ap₂, ◌∙◌}
use mathlib.Core.Bool.{Bool, true, false, ◌&&◌, ◌||◌, not}
use mathlib.Core.List.{List, [], ◌∷◌, ◌++◌}
use Prim.Native.Nat.{ℕ, zero, suc}
use lib.Dec.{eqb, ltb}
use borrow.Author.Tests.{ltb-true}
use Rattle.model.specs.Numbers.{every, joined, each, member, distinct}
use Rattle.laws.proofs.Choices.{and_true, and_assoc}
use Rattle.laws.proofs.Every.{every_step}
use Rattle.laws.proofs.Lists.{each_step, member_step, distinct_step}
use Rattle.laws.proofs.Tests.{eqb_swap}
use Rattle.marks.specs.Marks.{Marks, mark_at, unmark, all_marks}
use Rattle.marks.proofs.Laws.{unmark_others, all_stand}
use Rattle.scan.specs.Scan.{Scan, unsound, marked, scanned, then_scan, scan_all, scan_run, take_mark}

-- marks taken away one after the other, each of which stood
unfoldable pub claim_all : Marks → List ℕ → Scan
claim_all k [] = marked k
claim_all k (i ∷ is) = then_scan (take_mark k i) (λ j. claim_all j is)

pub then_unsound : (s : Scan) → then_scan s (λ o. unsound) ≡ unsound
then_unsound unsound = refl
then_unsound (marked k) = refl

then_then : (s : Scan) (g h : Marks → Scan) → then_scan s (λ o. then_scan (g o) h) ≡ then_scan (then_scan s g) h
then_then unsound g h = refl
then_then (marked k) g h = refl

pub then_same : (s : Scan) (g h : Marks → Scan) → ((o : Marks) → g o ≡ h o) → then_scan s g ≡ then_scan s h
then_same unsound g h e = refl
then_same (marked k) g h e = e k

claim_append : (is js : List ℕ) (k : Marks) → claim_all k (is ++ js) ≡ then_scan (claim_all k is) (λ o. claim_all o js)
unfolding claim_all
claim_append [] js k = refl
claim_append (i ∷ is) js k =
    then_same (take_mark k i) _ _ (λ o. claim_append is js o) ∙ then_then (take_mark k i) (λ o. claim_all o is) (λ o. claim_all o js)

-- the places of all, in order
unfoldable pub spread : (ℕ → List ℕ) → List ℕ → List ℕ
spread places [] = []
spread places (x ∷ xs) = places x ++ spread places xs

-- ---- a pass whose step is a test and then claims is a test of all and then all claims

module _ (step : Marks → ℕ → Scan) (guard : ℕ → Bool) (places : ℕ → List ℕ)
    (law : (k : Marks) (x : ℕ) → step k x ≡ (if guard x then claim_all k (places x) else unsound)) where
  -- one step, and a rest of which this is known
  one_more : (k : Marks) (x : ℕ) (rest : Marks → Scan) (c : Bool) (is : List ℕ)
      → ((o : Marks) → rest o ≡ (if c then claim_all o is else unsound))
      → then_scan (step k x) rest ≡ (if guard x && c then claim_all k (places x ++ is) else unsound)
  one_more k x rest c is known =
      then_same (step k x) _ _ known
      ∙ ap (λ (s : Scan). then_scan s (λ o. if c then claim_all o is else unsound)) (law k x)
      ∙ go (guard x) c
    where
      go : (b c : Bool) → then_scan (if b then claim_all k (places x) else unsound) (λ o. if c then claim_all o is else unsound)
          ≡ (if b && c then claim_all k (places x ++ is) else unsound)
      go false c = refl
      go true true = sym (claim_append (places x) is k)
      go true false = then_unsound (claim_all k (places x))

  pub all_claims : (xs : List ℕ) (k : Marks) → scan_all step k xs ≡ (if each guard xs then claim_all k (spread places xs) else unsound)
  unfolding scan_all each spread claim_all
  all_claims [] k = refl
  all_claims (x ∷ xs) k =
      one_more k x (λ o. scan_all step o xs) (each guard xs) (spread places xs) (all_claims xs)
      ∙ ap (λ (b : Bool). if b then claim_all k (places x ++ spread places xs) else unsound) (sym (each_step guard x xs))

  pub run_claims : (n s : ℕ) (k : Marks) → scan_run step k n s ≡ (if every guard n s then claim_all k (joined places n s) else unsound)
  unfolding scan_run every joined claim_all
  run_claims zero s k = refl
  run_claims (suc n) s k =
      one_more k s (λ o. scan_run step o n (suc s)) (every guard n (suc s)) (joined places n (suc s)) (run_claims n (suc s))
      ∙ ap (λ (b : Bool). if b then claim_all k (places s ++ joined places n (suc s)) else unsound) (sym (every_step guard n s))

-- ---- claims go well exactly where the marks stand and the places are distinct

unfoldable pub unmark_all : Marks → List ℕ → Marks
unmark_all k [] = k
unmark_all k (i ∷ is) = unmark_all (unmark k i) is

shuffle : (e b c m : Bool) → ((not e && b) && (c && not m)) ≡ ((b && c) && not (e || m))
shuffle true true true m = refl
shuffle true true false m = refl
shuffle true false c m = refl
shuffle false true true m = refl
shuffle false true false m = refl
shuffle false false c m = refl

stand_without : (is : List ℕ) (k : Marks) (i : ℕ) → each (mark_at (unmark k i)) is ≡ (each (mark_at k) is && not (member i is))
unfolding each member
stand_without [] k i = refl
stand_without (x ∷ xs) k i =
    each_step (mark_at (unmark k i)) x xs
    ∙ ap₂ ◌&&◌ (unmark_others k i x) (stand_without xs k i)
    ∙ shuffle (eqb i x) (mark_at k x) (each (mark_at k) xs) (member i xs)
    ∙ ap₂ (λ (a b : Bool). a && not b) (sym (each_step (mark_at k) x xs)) (sym (member_step i x xs))

claims_from : (is : List ℕ) (k : Marks) → claim_all k is ≡ (if each (mark_at k) is && distinct is then marked (unmark_all k is) else unsound)
unfolding claim_all each distinct unmark_all take_mark
claims_from [] k = refl
claims_from (i ∷ is) k =
    go (mark_at k i) (claims_from is (unmark k i))
    ∙ ap₂ (λ (a b : Bool). if a && b then marked (unmark_all (unmark k i) is) else unsound) (sym (each_step (mark_at k) i is)) (sym (distinct_step i is))
  where
    go : (t : Bool) → claim_all (unmark k i) is ≡ (if each (mark_at (unmark k i)) is && distinct is then marked (unmark_all (unmark k i) is) else unsound)
        → then_scan (scanned t (unmark k i)) (λ j. claim_all j is)
        ≡ (if (t && each (mark_at k) is) && (not (member i is) && distinct is) then marked (unmark_all (unmark k i) is) else unsound)
    go false known = refl
    go true known =
        known
        ∙ ap (λ (b : Bool). if b && distinct is then marked (unmark_all (unmark k i) is) else unsound) (stand_without is k i)
        ∙ ap (λ (b : Bool). if b then marked (unmark_all (unmark k i) is) else unsound) (and_assoc (each (mark_at k) is) (not (member i is)) (distinct is))

-- from all marks
pub claims : (is : List ℕ) → each (λ i. ltb i 256) is ≡ true → claim_all all_marks is ≡ (if distinct is then marked (unmark_all all_marks is) else unsound)
unfolding each
claims is h =
    claims_from is all_marks ∙ ap (λ (b : Bool). if b && distinct is then marked (unmark_all all_marks is) else unsound) (stand is h)
  where
    stand : (is : List ℕ) → each (λ i. ltb i 256) is ≡ true → each (mark_at all_marks) is ≡ true
    stand [] h = refl
    stand (i ∷ is) h =
        let low = and_true (ltb i 256) (each (λ i. ltb i 256) is) (sym (each_step (λ i. ltb i 256) i is) ∙ h) in
        each_step (mark_at all_marks) i is ∙ ap₂ ◌&&◌ (all_stand i (ltb-true i 256 low.0)) (stand is low.1)

-- what stands after them: all that stood but theirs
move : (a b c : Bool) → (not a && (not b && c)) ≡ (not (b || a) && c)
move true true c = refl
move true false c = refl
move false true c = refl
move false false c = refl

pub stands_after : (is : List ℕ) (k : Marks) (j : ℕ) → mark_at (unmark_all k is) j ≡ (not (member j is) && mark_at k j)
unfolding unmark_all member
stands_after [] k j = refl
stands_after (i ∷ is) k j =
    stands_after is (unmark k i) j
    ∙ ap (λ (b : Bool). not (member j is) && b) (unmark_others k i j ∙ ap (λ (b : Bool). not b && mark_at k j) (eqb_swap i j))
    ∙ move (member j is) (eqb j i) (mark_at k j)
    ∙ ap (λ (b : Bool). not b && mark_at k j) (sym (member_step j i is))
