-- Several blocks of one GiB: their stores, made one block after the other, take the edit on by as many blocks, or the limit cuts the whole edit.
use Rattle.std.specs.Prelude.{if◌then◌else◌, Option}
use mathlib.Core.Path.{◌≡◌, refl, sym, ap, ap₂, ◌∙◌, subst, subst₂}
use mathlib.Core.Bool.{Bool}
use mathlib.Core.List.{List, ◌++◌, head_d, tail}
use Prim.Native.Nat.{ℕ, zero, suc, ◌+◌, ◌*◌, ◌/◌, ◌≤◌, ◌<◌}
use native.Mathlib.Nat.{add-zero}
use native.Mathlib.Omega.{arith}
use native.Mathlib.Numerals.{add-one}
use lib.ListN.{drop}
use Rattle.laws.proofs.Choices.{split}
use Rattle.model.specs.Forms.{Request, first_gib, gibs, forms_in}
use Rattle.model.specs.Frame.{Frame}
use Rattle.model.specs.Layout.{gib_blocks}
use Rattle.model.specs.Stores.{Store, needs_page, stores_from, new_pages}
use Rattle.model.specs.Walk.{entry_at}
use Rattle.types.specs.declared.Budget.{Budget}
use Rattle.shapes.specs.Blocks.{form_in_gib, stores_in_gib, stores_over, pages_over}
use Rattle.shapes.specs.Run.{Out, all_made, limit_reached, run}
use Rattle.shapes.proofs.RunLaws.{run_none, run_on, run_off}
use Rattle.sequence.specs.GibBlocks.{OneIs}
use Rattle.sequence.specs.Prepared.{whole_list}
use Rattle.sequence.proofs.AtBlock.{AtBlock}
use Rattle.sequence.proofs.Facts.{Facts}
use Rattle.sequence.proofs.NextBlock.{at_block_cut, at_block_next, pages_left}

module _ {F : Frame} {m0 : List ℕ} {q : Request} {root : ℕ} {free : List ℕ} (k : Facts F m0 q root free) (limit : Budget) where
  abbrev end : ℕ
  end = first_gib q * gib_blocks + gibs q * gib_blocks

  -- where some stores end: at block b with the free pages from place next on, or cut, as the whole edit is
  abbrev pub Ends : ℕ → ℕ → Out → Type 0
  Ends b next (all_made l m) = AtBlock k limit m b next l
  Ends b next (limit_reached m) = limit_reached m ≡ run limit (whole_list F m0 q root free) m0

  module _ (gib : Option ℕ) where
    -- the stores of n blocks, and their new pages, as the edit found them
    abbrev stores : ℕ → ℕ → List ℕ → List Store
    stores n b fr = stores_over F m0 q root gib n b fr

    abbrev pages : ℕ → ℕ → ℕ
    pages n b = pages_over F m0 q root gib n b

    -- one block, and then n more
    module _ (n : ℕ) {m : List ℕ} {b next : ℕ} {left : Budget} (s : AtBlock k limit m b next left) (hi : b < end) (gi : OneIs F m0 q root (b / gib_blocks) gib)
        (more : (m' : List ℕ) (next' : ℕ) (l : Budget) → AtBlock k limit m' (b + 1) next' l → Ends (b + 1 + n) (next' + pages n (b + 1)) (run l (stores n (b + 1) (drop next' free)) m')) where
      abbrev fr : List ℕ
      fr = drop next free

      abbrev need : Bool
      need = needs_page (form_in_gib F m0 q root gib b) (entry_at F m0 root b)

      abbrev ss : List Store
      ss = stores_in_gib F m0 q root gib b (head_d fr 0)

      abbrev ts : List Store
      ts = stores n (suc b) (if need then tail fr else fr)

      abbrev next₁ : ℕ
      next₁ = if need then next + 1 else next

      pages_count : next₁ + pages n (b + 1) ≡ next + ((if need then 1 else 0) + pages n (suc b))
      pages_count = ap (λ (x : ℕ). next₁ + pages n x) (add-one b) ∙ split need (λ z. rw z (omega arith)) (λ z. rw z (omega arith))

      go : (o : Out) → o ≡ run left ss m → Ends (b + suc n) (next + ((if need then 1 else 0) + pages n (suc b))) (run left (ss ++ ts) m)
      go (limit_reached m') e =
          subst (Ends (b + suc n) (next + ((if need then 1 else 0) + pages n (suc b)))) (sym (run_off left ss m e ts)) (at_block_cut s hi gib gi e refl)
      go (all_made l m') e =
          let u : b + 1 + n ≡ b + suc n = omega arith in
          subst (Ends (b + suc n) (next + ((if need then 1 else 0) + pages n (suc b))))
          (sym (run_on left ss m e ts ∙ ap₂ (λ (x : ℕ) (y : List ℕ). run l (stores n x y) m') (sym (add-one b)) (pages_left need free next)))
          (subst₂ (λ (x y : ℕ). Ends x y (run l (stores n (b + 1) (drop next₁ free)) m')) u pages_count (more m' next₁ l (at_block_next s hi gib gi e refl)))

      run_first : Ends (b + suc n) (next + pages (suc n) b) (run left (stores (suc n) b fr) m)
      unfolding stores_from new_pages forms_in
      run_first = go (run left ss m) refl

    pub run_gib_blocks : (n : ℕ) {m : List ℕ} {b next : ℕ} {left : Budget} → AtBlock k limit m b next left → b + n ≤ end
        → ((c : ℕ) → b ≤ c → c < b + n → OneIs F m0 q root (c / gib_blocks) gib) → Ends (b + n) (next + pages n b) (run left (stores n b (drop next free)) m)
    unfolding stores_from new_pages forms_in
    run_gib_blocks zero {m} {b} {next} {left} s hi gi =
        subst (Ends (b + 0) (next + 0)) (sym (run_none left m)) (subst₂ (λ (x y : ℕ). AtBlock k limit m x y left) (sym (add-zero b)) (sym (add-zero next)) s)
    run_gib_blocks (suc n) {m} {b} {next} {left} s hi gi =
        run_first n s (omega arith) (gi b (omega arith) (omega arith)) (λ m' next' l s'. run_gib_blocks n s' (omega arith) (λ c lo up. gi c (omega arith) (omega arith)))
