-- The loop over the blocks, in the code's words, with the frame beside the memory as it stands: before block b the edit stands there (`AtBlock`),
-- and whether its GiB is of one permission is known but at the GiB's first block. Some blocks of one GiB, stored, lead to the block behind them;
-- past the last, all is made.
use Rattle.std.specs.Prelude.{Result}
use mathlib.Core.Path.{◌≡◌, sym, ap, ◌∙◌, subst}
use mathlib.Core.List.{List, head_d}
use Prim.Native.Nat.{ℕ, ◌+◌, ◌*◌, ◌-◌, ◌/◌, ◌%◌, ◌≤◌, ◌<◌}
use native.Mathlib.Omega.{arith}
use lib.ListN.{length, drop}
use Rattle.model.specs.Forms.{Request, first_gib, gibs}
use Rattle.model.specs.Frame.{Frame, blocks}
use Rattle.model.specs.Layout.{gib_blocks, gib_bytes}
use Rattle.model.specs.Stores.{Store}
use Rattle.types.specs.declared.Budget.{Budget}
use Rattle.shapes.specs.Ahead.{Ahead}
use Rattle.shapes.specs.Blocks.{GibIs, one_in, stores_over, pages_over}
use Rattle.shapes.specs.Rooted.{Rooted}
use Rattle.shapes.specs.Run.{Out, all_made, limit_reached, run}
use Rattle.shapes.proofs.Order.{ahead_of}
use Rattle.sequence.specs.GibBlocks.{OneIs, HasNewPage}
use Rattle.sequence.specs.Prepared.{whole_list}
use Rattle.sequence.proofs.AtBlock.{AtBlock, at_block_start, gib_back, gib_same, over_same, pages_same, rooted, size}
use Rattle.sequence.proofs.Facts.{Facts}
use Rattle.sequence.proofs.GibBlockLaws.{Ends, run_gib_blocks}
use Rattle.sequence.proofs.NextBlock.{one_is, at_block_ahead, at_block_end, has_new_page}

pub record LoopInvariant (over : ℕ → Frame) (m0 : List ℕ) (q : Request) (root : ℕ) (free : List ℕ) (limit : Budget) (end : ℕ) (m : List ℕ) (b : ℕ) (gib : Result ℕ ℕ) (next : ℕ) (left : Budget) : Type 0 where
  pub k : Facts (over (length m0)) m0 q root free
  pub at_block : AtBlock k limit m b next left
  pub is_end : end ≡ first_gib q * gib_blocks + gibs q * gib_blocks
  pub at_most : b ≤ end
  -- what a GiB's first block decided
  pub flag : (b % gib_blocks ≡ 0 → ⊥) → GibIs (over (length m0)) m0 q root (b / gib_blocks) gib

module _ {over : ℕ → Frame} {m0 : List ℕ} {q : Request} {root : ℕ} {free : List ℕ} {limit : Budget} {end : ℕ} where
  pub invariant_start : {b : ℕ} {gib : Result ℕ ℕ} → Facts (over (length m0)) m0 q root free → end ≡ ((q.start + q.size - 1) / gib_bytes + 1) * gib_blocks → b ≡ q.start / gib_bytes * gib_blocks
      → LoopInvariant over m0 q root free limit end m0 b gib 0 limit
  unfolding first_gib gibs
  invariant_start k e z =
      record {
        k = k;
        at_block = subst (λ (c : ℕ). AtBlock k limit m0 c 0 limit) (sym z) (at_block_start k limit);
        is_end = omega (arith, e, k.some);
        at_most = omega (arith, e, z, k.some);
        flag = λ ne. absurd (ne (omega (arith, z)));
      }

  module _ {m : List ℕ} {b : ℕ} {gib : Result ℕ ℕ} {next : ℕ} {left : Budget} (t : LoopInvariant over m0 q root free limit end m b gib next left) where
    abbrev F : Frame
    F = over (length m0)

    pub invariant_length : length m ≡ length m0
    invariant_length = size t.at_block

    -- what holds of the frame that the edit found holds of the one that stands
    now' : (X : Frame → Type 0) → X F → X (over (length m))
    now' X = subst X (sym (ap over invariant_length))

    pub invariant_rooted : Rooted (over (length m)) m root
    invariant_rooted = now' (λ X. Rooted X m root) (rooted t.at_block)

    pub invariant_end : end ≤ b → all_made left m ≡ run limit (whole_list F m0 q root free) m0
    invariant_end h = at_block_end t.at_block (omega (arith, t.is_end))

    module _ (h : b < end) where
      gib_room : b / gib_blocks * gib_blocks + gib_blocks ≤ blocks F
      gib_room = omega (arith, t.is_end, t.k.inside)

      pub invariant_room : b / gib_blocks * gib_blocks + gib_blocks ≤ blocks (over (length m))
      invariant_room = now' (λ X. b / gib_blocks * gib_blocks + gib_blocks ≤ blocks X) gib_room

      pub invariant_flag : (b % gib_blocks ≡ 0 → ⊥) → GibIs (over (length m)) m q root (b / gib_blocks) gib
      invariant_flag ne = now' (λ X. GibIs X m q root (b / gib_blocks) gib) (gib_same t.at_block (b / gib_blocks) gib_room gib (t.flag ne))

      -- what is found of the GiB is known
      module _ (g : Result ℕ ℕ) (is : GibIs (over (length m)) m q root (b / gib_blocks) g) where
        found : GibIs F m0 q root (b / gib_blocks) g
        found = gib_back t.at_block (b / gib_blocks) gib_room g (subst (λ (X : Frame). GibIs X m q root (b / gib_blocks) g) (ap over invariant_length) is)

        one : OneIs F m0 q root (b / gib_blocks) (one_in g)
        one = one_is F m0 q root (b / gib_blocks) g found

        in_gib : (n : ℕ) → b % gib_blocks + n ≤ gib_blocks → (c : ℕ) → b ≤ c → c < b + n → OneIs F m0 q root (c / gib_blocks) (one_in g)
        in_gib n u c lo hi = let x : b / gib_blocks ≡ c / gib_blocks = omega arith in subst (λ (d : ℕ). OneIs F m0 q root d (one_in g)) x one

        same_stores : (n : ℕ) → b % gib_blocks + n ≤ gib_blocks → stores_over (over (length m)) m q root (one_in g) n b (drop next free) ≡ stores_over F m0 q root (one_in g) n b (drop next free)
        same_stores n u =
            ap (λ (X : Frame). stores_over X m q root (one_in g) n b (drop next free)) (ap over invariant_length)
            ∙ over_same t.at_block (one_in g) n b (drop next free) (omega arith) (omega (arith, gib_room))

        pub invariant_new_page : HasNewPage (over (length m)) m q root (one_in g) b (head_d (drop next free) 0)
        invariant_new_page = now' (λ X. HasNewPage X m q root (one_in g) b (head_d (drop next free) 0)) (has_new_page t.at_block (omega (arith, t.is_end)) (one_in g) one)

        -- the stores of what is left of this GiB are next
        pub invariant_ahead : Ahead m (stores_over (over (length m)) m q root (one_in g) (gib_blocks - b % gib_blocks) b (drop next free))
        invariant_ahead =
            ahead_of (sym (same_stores (gib_blocks - b % gib_blocks) (omega arith)))
            (at_block_ahead t.at_block (one_in g) (gib_blocks - b % gib_blocks) (omega (arith, t.is_end)) (in_gib (gib_blocks - b % gib_blocks) (omega arith)))

        -- the blocks ahead of this GiB, as many as the code takes at once
        module _ (n : ℕ) (within : b % gib_blocks + n ≤ gib_blocks) {o : Out} (said : o ≡ run left (stores_over (over (length m)) m q root (one_in g) n b (drop next free)) m) where
          abbrev Ends' : Out → Type 0
          Ends' = Ends t.k limit (b + n) (next + pages_over F m0 q root (one_in g) n b)

          ends : Ends' o
          ends =
              subst Ends' (sym (said ∙ ap (λ (l : List Store). run left l m) (same_stores n within)))
              (run_gib_blocks t.k limit (one_in g) n t.at_block (omega (arith, t.is_end)) (in_gib n within))

          pub invariant_cut : {m' : List ℕ} → o ≡ limit_reached m' → o ≡ run limit (whole_list F m0 q root free) m0
          invariant_cut z = z ∙ subst Ends' z ends

          pub invariant_next : {l : Budget} {m' : List ℕ} → o ≡ all_made l m' → (next' : ℕ) → next' ≡ next + pages_over (over (length m)) m q root (one_in g) n b
              → LoopInvariant over m0 q root free limit end m' (b + n) g next' l
          invariant_next {l} {m'} z next' y =
              let count : next + pages_over F m0 q root (one_in g) n b ≡ next'
              = sym (y
              ∙ ap (λ (X : Frame). next + pages_over X m q root (one_in g) n b) (ap over invariant_length)
              ∙ ap (λ (x : ℕ). next + x) (pages_same t.at_block (one_in g) n b (omega arith) (omega (arith, gib_room)))) in
              record {
                k = t.k;
                at_block = subst (λ (x : ℕ). AtBlock t.k limit m' (b + n) x l) count (subst Ends' z ends);
                is_end = t.is_end;
                at_most = omega (arith, t.is_end);
                flag = λ ne. let x : b / gib_blocks ≡ (b + n) / gib_blocks = omega (arith, ne) in subst (λ (c : ℕ). GibIs F m0 q root c g) x found;
              }
