-- The blocks of a GiB.
use mathlib.Core.Path.{◌≡◌, refl, sym, ap₂, ◌∙◌}
use mathlib.Core.Bool.{true, false}
use mathlib.Core.List.{List}
use Prim.Native.Nat.{ℕ, ◌+◌, ◌*◌, ◌/◌, ◌≤◌, ◌<◌}
use native.Mathlib.Nat.{zero-mul}
use native.Mathlib.Omega.{arith}
use lib.Dec.{eqb}
use borrow.Author.Tests.{eq-eqb, eqb-true}
use Rattle.laws.proofs.Choices.{split}
use Rattle.laws.proofs.Every.{every_all, every_in}
use Rattle.model.specs.Entry.{Entry}
use Rattle.model.specs.Forms.{Request, in_range, after_in, after, all_are, gib_first, gib_is_one}
use Rattle.model.specs.Frame.{Frame, blocks}
use Rattle.model.specs.Layout.{block_pages, gib_blocks, gib_pages, piece_pages}
use Rattle.model.specs.Numbers.{every}
use Rattle.model.specs.Walk.{entry_at, pn2}
use Rattle.shapes.specs.Rooted.{Rooted}
use Rattle.shapes.specs.Blocks.{block_is}
use Rattle.shapes.proofs.Shape.{Shape}
use Rattle.shapes.proofs.EntryLaws.{run_inside}

module _ (F : Frame) (m : List ℕ) (q : Request) (root g : ℕ) where
  pub gib_every : (p : ℕ) → gib_is_one F m q root g p ≡ every (block_is F m q root p) gib_blocks (g * gib_blocks)
  unfolding gib_is_one
  gib_every p = refl

  pub first_of : after_in F m q (entry_at F m root (g * gib_blocks)) (g * gib_blocks * block_pages + 0 * piece_pages F.layout) ≡ gib_first F m q root g
  unfolding gib_first after pn2
  first_of =
      let a : g * gib_blocks * block_pages + 0 * piece_pages F.layout ≡ g * gib_pages = omega (arith, zero-mul (piece_pages F.layout)) in
      let b : g * gib_blocks ≡ g * gib_pages / block_pages = omega arith in
      ap₂ (λ (x y : ℕ). after_in F m q (entry_at F m root x) y) b a

  asked : (e : Entry) (k : ℕ) → in_range q k ≡ true → after_in F m q e k ≡ q.permission
  unfolding after_in
  asked e k z = rw z

  -- a page in the range, where p is not the asked permission
  pub mixed_gib : (p : ℕ) → (p ≡ q.permission → ⊥) → (((k : ℕ) → g * gib_blocks * block_pages ≤ k → k < g * gib_blocks * block_pages + gib_pages → in_range q k ≡ false) → ⊥)
      → false ≡ gib_is_one F m q root g p
  unfolding gib_is_one all_are
  mixed_gib p differ met =
      split (every (block_is F m q root p) gib_blocks (g * gib_blocks))
      (λ z. absurd (met (λ k lo hi.
      split (in_range q k)
      (λ y. absurd (differ
      (sym (eqb-true _ _ (every_in (λ j. eqb (after_in F m q (entry_at F m root (k / block_pages)) j) p) block_pages (k / block_pages * block_pages)
      (every_in (block_is F m q root p) gib_blocks (g * gib_blocks) z (k / block_pages) (omega arith) (omega arith)) k (omega arith) (omega arith)))
      ∙ asked (entry_at F m root (k / block_pages)) k y)))
      (λ y. y))))
      (λ z. sym z)

-- a GiB in the range
module _ {F : Frame} {m : List ℕ} {root : ℕ} (sh : Shape F.layout) (r : Rooted F m root) (q : Request) (low : q.permission < 4) (g : ℕ) (fits : g * gib_blocks + gib_blocks ≤ blocks F)
    (h : (k : ℕ) → g * gib_pages ≤ k → k < g * gib_pages + gib_pages → in_range q k ≡ true) where
  pub inside_first : q.permission ≡ gib_first F m q root g
  unfolding gib_first after after_in
  inside_first = rw (h (g * gib_pages) (omega arith) (omega arith))

  pub inside_one : true ≡ gib_is_one F m q root g q.permission
  unfolding gib_is_one
  inside_one =
      sym (every_all (block_is F m q root q.permission) gib_blocks (g * gib_blocks) (λ i l.
      let b : ℕ = g * gib_blocks + i in
      sym (run_inside F sh m q low (entry_at F m root b) (r.good b (omega arith)) q.permission block_pages (b * block_pages) (omega arith) (λ k lo hi. h k (omega arith) (omega arith)))
      ∙ eq-eqb q.permission q.permission refl))
