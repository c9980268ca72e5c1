-- What callers use: a lent page of a sound table is marked exactly when it is free; free pages are lent.
use Rattle.std.specs.Prelude.{if◌then◌else◌}
use mathlib.Core.Path.{◌≡◌, refl, sym, ap, ap₂, ◌∙◌}
use mathlib.Core.Bool.{Bool, true, false, not, ◌&&◌, ◌||◌, true≢false}
use mathlib.Core.List.{List, [], ◌∷◌, ◌++◌, map, head_d}
use Prim.Native.Nat.{ℕ, zero, suc, ◌+◌, ◌≤◌, ◌<◌}
use native.Mathlib.Omega.{arith}
use lib.Dec.{eqb}
use lib.ListN.{length}
use borrow.Author.Tests.{le-leb, lt-ltb, eq-eqb, ne_eqb, eqb-true, eqb-false}
use Rattle.model.specs.Numbers.{each, joined, member}
use Rattle.model.specs.Frame.{Frame, lent}
use Rattle.model.specs.Sound.{Slot, roots, used, sound_slots, sound_table, sound, free_of, free_pages}
use Rattle.laws.proofs.Choices.{and_true, split}
use Rattle.laws.proofs.FrameNumbers.{lent_in}
use Rattle.laws.proofs.Lists.{each_step, each_append, member_step, joined_cong}
use Rattle.marks.specs.Marks.{Marks, all_marks}
use Rattle.scan.specs.FreeMarks.{marked_pages}
use Rattle.scan.specs.Admission.{MarkedFree}
use Rattle.scan.proofs.Claims.{unmark_all}
use Rattle.scan.proofs.UsedPages.{place, used_lent, stands_unless_used}

-- ---- a free page is lent

joined_lent : (F : Frame) (f : ℕ → List ℕ) (n s : ℕ) → ((k : ℕ) → s ≤ k → k < s + n → each (lent F) (f k) ≡ true) → each (lent F) (joined f n s) ≡ true
unfolding joined each
joined_lent F f zero s law = refl
joined_lent F f (suc n) s law =
    each_append (lent F) (f s) (joined f n (suc s))
    ∙ ap₂ ◌&&◌ (law s (omega arith) (omega arith)) (joined_lent F f n (suc s) (λ k l u. law k (omega arith) (omega arith)))

lent_between : (F : Frame) (page : ℕ) → F.first ≤ page → page < F.first + F.pages → lent F page ≡ true
unfolding lent
lent_between F page low high = rw (le-leb F.first page low, lt-ltb page (F.first + F.pages) high)

pub free_lent : (F : Frame) (used : List ℕ) → each (lent F) (free_of F used) ≡ true
unfolding free_of each
free_lent F used = joined_lent F _ F.pages F.first (λ page low high. go page (member page used) (lent_between F page low high))
  where
    go : (page : ℕ) (b : Bool) → lent F page ≡ true → each (lent F) (if b then [] else page ∷ []) ≡ true
    go page true h = refl
    go page false h = each_step (lent F) page [] ∙ ap (λ (b : Bool). b && true) h

-- and so is the lowest, if there is one
pub head_lent : (F : Frame) (pages : List ℕ) → eqb (length pages) 0 ≡ false → each (lent F) pages ≡ true → lent F (head_d pages 0) ≡ true
unfolding head_d
head_lent F [] some h = absurd (true≢false some)
head_lent F (page ∷ pages) some h = (and_true (lent F page) (each (lent F) pages) (sym (each_step (lent F) page pages) ∙ h)).0

-- ---- a lent page is among the free exactly when it is not in use

module _ (taken : ℕ → Bool) where
  kept : ℕ → ℕ → List ℕ
  kept n s = joined (λ page. if taken page then [] else page ∷ []) n s

  kept_above : (n s page : ℕ) → page < s → member page (kept n s) ≡ false
  unfolding kept joined member
  kept_above zero s page h = refl
  kept_above (suc n) s page h = go (taken s) (kept_above n (suc s) page (omega arith))
    where
      go : (b : Bool) → member page (kept n (suc s)) ≡ false → member page ((if b then [] else s ∷ []) ++ kept n (suc s)) ≡ false
      go true rest = rest
      go false rest = member_step page s (kept n (suc s)) ∙ ap₂ ◌||◌ (ne_eqb page s (λ e. omega arith)) rest

  kept_member : (n s page : ℕ) → s ≤ page → page < s + n → member page (kept n s) ≡ not (taken page)
  unfolding kept joined member
  kept_member zero s page lo hi = absurd (omega arith)
  kept_member (suc n) s page lo hi =
      split (eqb page s)
      (λ e. here (eqb-true page s e) (taken s) refl)
      (λ e. let ne = eqb-false page s e in there e (taken s) (kept_member n (suc s) page (omega (arith, ne)) (omega arith)))
    where
      here : page ≡ s → (b : Bool) → taken s ≡ b → member page ((if b then [] else s ∷ []) ++ kept n (suc s)) ≡ not (taken page)
      here e true t = kept_above n (suc s) page (omega arith) ∙ sym (ap not (ap taken e ∙ t))
      here e false t = member_step page s (kept n (suc s)) ∙ ap (λ (b : Bool). b || member page (kept n (suc s))) (eq-eqb page s e) ∙ sym (ap not (ap taken e ∙ t))

      there : eqb page s ≡ false → (b : Bool) → member page (kept n (suc s)) ≡ not (taken page) → member page ((if b then [] else s ∷ []) ++ kept n (suc s)) ≡ not (taken page)
      there e true rest = rest
      there e false rest = member_step page s (kept n (suc s)) ∙ ap₂ ◌||◌ e rest

pub free_member : (F : Frame) (used : List ℕ) (page : ℕ) → lent F page ≡ true → member page (free_of F used) ≡ not (member page used)
unfolding free_of kept
free_member F used page h = let b = lent_in F page h in kept_member (λ page. member page used) F.pages F.first page b.0 b.1

-- ---- the marks of a sound table

module _ (F : Frame) (m : List ℕ) (slots : List Slot) (ok : sound F m slots ≡ true) (few : F.pages ≤ 256) where
  all_lent : each (lent F) (used F m (roots F slots)) ≡ true
  unfolding sound sound_table
  all_lent = used_lent F m (roots F slots) (and_true _ _ (and_true (sound_slots F slots) _ ok).1).0

  -- what is left of the marks once the pages in use have lost theirs
  pub marked_exactly_when_free : MarkedFree F m slots (unmark_all all_marks (map (place F) (used F m (roots F slots))))
  unfolding free_pages
  marked_exactly_when_free page h =
      stands_unless_used F few page h (used F m (roots F slots)) all_lent ∙ sym (free_member F (used F m (roots F slots)) page h)

-- so the marked pages are the free pages, in the same order
pub marked_are_free : (F : Frame) (m : List ℕ) (slots : List Slot) (marks : Marks) → MarkedFree F m slots marks → marked_pages F marks ≡ free_pages F m (roots F slots)
unfolding marked_pages free_pages free_of
marked_are_free F m slots marks law =
    joined_cong _ _ F.pages F.first
    (λ page low high.
    let h = lent_between F page low high in
    ap (λ (b : Bool). if b then page ∷ [] else []) (law page h ∙ free_member F (used F m (roots F slots)) page h) ∙ turned (member page (used F m (roots F slots))) page)
  where
    turned : (b : Bool) (page : ℕ) → (if not b then page ∷ [] else []) ≡ (if b then [] else page ∷ [])
    turned true page = refl
    turned false page = refl
