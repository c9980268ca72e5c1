-- The new pages of an edit: "At most two blocks can need one", and its stores depend on those pages of the free list alone.
use Rattle.std.specs.Prelude.{if◌then◌else◌}
use mathlib.Core.Path.{◌≡◌, refl, sym, ap, ap₂, ◌∙◌}
use mathlib.Core.Bool.{true, false, true≢false, false≢true}
use mathlib.Core.Logic.{◌≢◌}
use mathlib.Core.List.{List, [], ◌∷◌, ◌++◌, head_d, tail}
use Prim.Native.Nat.{ℕ, suc, ◌+◌, ◌*◌, ◌≤◌, ◌<◌, ◌^◌, zero-le}
use native.Mathlib.Nat.{mul-zero}
use native.Mathlib.Omega.{arith}
use lib.Dec.{eqb}
use lib.ListN.{length, get_or}
use borrow.Author.Tests.{eqb-true, eqb-false}
use Rattle.model.specs.Entry.{Entry, flat, invalid, pieces, table}
use Rattle.model.specs.Frame.{Frame}
use Rattle.model.specs.Walk.{entry_at}
use Rattle.model.specs.Forms.{Form, Request, first_gib, forms, want_flat, want_pieces, want_table}
use Rattle.model.specs.Stores.{Store, block_stores, needs_page, new_pages, stores_from}
use Rattle.laws.proofs.Choices.{split}
use Rattle.laws.proofs.Sums.{sum}
use Rattle.laws.proofs.Times.{times}
use Rattle.theory.proofs.Frames.{Ok, words_pos}
use Rattle.theory.proofs.Tables.{Sound}
use Rattle.theory.proofs.Plans.{AllAt}
use Rattle.theory.proofs.Ranges.{GoodRange}
use Rattle.theory.proofs.Ends.{high_end, low_end}
use Rattle.theory.proofs.Counts.{Few, ends_of, forms_few, link_length, two_ends}

module _ (F : Frame) (ok : Ok F) (q : Request) (m : List ℕ) (ro : ℕ) where
  -- a block that needs a page stores a page of entries and the entry that names it
  full_length : (f : Form) (e : Entry) (b p : ℕ) → needs_page f e ≡ true → length (block_stores F m q ro f e b p) ≡ 1 + F.layout.words
  unfolding block_stores needs_page
  full_length (want_flat x) e b p h = absurd (false≢true h)
  full_length (want_pieces x) e b p h = absurd (false≢true h)
  full_length want_table (flat x) b p h = link_length F ok q m ro (flat x) b p
  full_length want_table (pieces x) b p h = link_length F ok q m ro (pieces x) b p
  full_length want_table (table t) b p h = absurd (false≢true h)
  full_length want_table invalid b p h = link_length F ok q m ro invalid b p

  need_few : (ends : List ℕ) (b : ℕ) (f : Form) → Few F q m ro ends b f → (if needs_page f (entry_at F m ro b) then 1 else 0) ≤ times b ends
  need_few ends b f h =
      split (needs_page f (entry_at F m ro b))
      (λ z. rw z
      (split (eqb (times b ends) 0)
      (λ y. let none : times b ends ≡ 0 = eqb-true (times b ends) 0 y in
      absurd (omega (arith, h 0, full_length f (entry_at F m ro b) b 0 z, words_pos F ok, ap (λ (k : ℕ). F.layout.words * k) none, mul-zero F.layout.words)))
      (λ y. let some : times b ends ≢ 0 = eqb-false (times b ends) 0 y in omega arith)))
      (λ z. rw z zero-le)

  pages_few : (ends : List ℕ) (fs : List Form) (b : ℕ) → AllAt (Few F q m ro ends) b fs → new_pages F m ro b fs ≤ sum (λ c. times c ends) (length fs) b
  unfolding new_pages sum
  pages_few ends [] b h = zero-le
  pages_few ends (f ∷ fs) b h = omega (arith, need_few ends b f h.0, pages_few ends fs (suc b) h.1)

  -- "At most two blocks can need one."
  pub two_pages : (q.permission < 4) → (w : GoodRange F q) → (rs : List ℕ) → Sound F rs m → 0 < times ro rs → ((i : ℕ) → get_or m i 0 < 16 ^ F.layout.fields)
      → new_pages F m ro (first_gib q * 32) (forms F m q ro) ≤ 2
  two_pages low w rs s root bound =
      omega (
        arith,
        pages_few (ends_of F ok q low w m ro rs s root bound) (forms F m q ro) (first_gib q * 32) (forms_few F ok q low w m ro rs s root bound),
        two_ends (low_end F q w) (high_end F q w) (length (forms F m q ro)) (first_gib q * 32),
      )

-- ---- the stores depend on the pages that are taken, and on no others

module _ (F : Frame) (m : List ℕ) (q : Request) (ro : ℕ) where
  -- a block that needs no page does not look at the one it is offered
  no_page : (f : Form) (e : Entry) (b p p' : ℕ) → needs_page f e ≡ false → block_stores F m q ro f e b p ≡ block_stores F m q ro f e b p'
  unfolding block_stores needs_page
  no_page (want_flat x) e b p p' h = refl
  no_page (want_pieces x) e b p p' h = refl
  no_page want_table (flat x) b p p' h = absurd (true≢false h)
  no_page want_table (pieces x) b p p' h = absurd (true≢false h)
  no_page want_table (table t) b p p' h = refl
  no_page want_table invalid b p p' h = absurd (true≢false h)

  head_at : (xs : List ℕ) → head_d xs 0 ≡ get_or xs 0 0
  unfolding head_d
  head_at [] = refl
  head_at (x ∷ xs) = refl

  tail_at : (xs : List ℕ) (i : ℕ) → get_or (tail xs) i 0 ≡ get_or xs (suc i) 0
  tail_at [] i = refl
  tail_at (x ∷ xs) i = refl

  pub same_pages : (fs : List Form) (b : ℕ) (xs ys : List ℕ) → ((i : ℕ) → i < new_pages F m ro b fs → get_or xs i 0 ≡ get_or ys i 0)
      → stores_from F m q ro b fs xs ≡ stores_from F m q ro b fs ys
  unfolding stores_from new_pages
  same_pages [] b xs ys h = refl
  same_pages (f ∷ fs) b xs ys h =
      split (needs_page f (entry_at F m ro b))
      (λ z.
      let k : (i : ℕ) → i < 1 + new_pages F m ro (suc b) fs → get_or xs i 0 ≡ get_or ys i 0 = rw z at h in
      rw z
      (ap₂ (λ (p : ℕ) (l : List Store). block_stores F m q ro f (entry_at F m ro b) b p ++ l)
      (head_at xs ∙ k 0 (omega arith) ∙ sym (head_at ys))
      (same_pages fs (suc b) (tail xs) (tail ys) (λ i u. tail_at xs i ∙ k (suc i) (omega arith) ∙ sym (tail_at ys i)))))
      (λ z.
      let k : (i : ℕ) → i < 0 + new_pages F m ro (suc b) fs → get_or xs i 0 ≡ get_or ys i 0 = rw z at h in
      rw z
      (ap₂ (λ (x : List Store) (l : List Store). x ++ l)
      (no_page f (entry_at F m ro b) b (head_d xs 0) (head_d ys 0) z)
      (same_pages fs (suc b) xs ys (λ i u. k i (omega arith)))))
