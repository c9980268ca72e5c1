-- What the slots have of a page, by the entries of its block; and the page by all slots.
use mathlib.Core.Path.{◌≡◌, refl, sym, ap, ap₂, ◌∙◌}
use mathlib.Core.Bool.{Bool, true, false, ◌&&◌}
use mathlib.Core.List.{List}
use Prim.Native.Nat.{ℕ, ◌+◌, ◌*◌, ◌-◌, ◌/◌, ◌%◌, ◌^◌, ◌≤◌, ◌<◌}
use lib.Pow.{pow-add}
use native.Mathlib.Nat.{add-zero}
use native.Mathlib.Omega.{arith}
use lib.Dec.{leb}
use lib.ListN.{length, get_or, replicate, take}
use Rattle.std.proofs.lemmas.List.{length-take-le, get_or-take}
use Rattle.model.specs.Layout.{Layout, slot_count, block_pages, piece_pages}
use Rattle.model.specs.Register.{ppn_of}
use Rattle.model.specs.Entry.{Entry, Found, perm}
use Rattle.model.specs.Frame.{Frame, blocks, space, frame_ok}
use Rattle.model.specs.Walk.{walk, found, entry_at, pn2}
use Rattle.model.specs.Access.{may, may_rows, column_of, write}
use Rattle.model.specs.Sound.{Slot, register, is_open, roots, sound}
use Rattle.model.specs.Calls.{slot_at}
use Rattle.model.specs.Apart.{Strength, strict, sharing, grants, grants_any, opens, writes, reaches, by_slot}
use Rattle.laws.proofs.Choices.{split}
use Rattle.laws.proofs.Sums.{sum, sum_cong, sum_last}
use Rattle.theory.proofs.Entries.{Lawful}
use Rattle.theory.proofs.Frames.{frame_ok_lem}
use Rattle.theory.proofs.TablePages.{sounds}
use Rattle.theory.proofs.Domains.{open_domain, domain_root}
use Rattle.theory.proofs.Walks.{walk_in}
use Rattle.types.specs.declared.Masks.{Masks}
use Rattle.types.specs.declared.Shares.{Shares}
use Rattle.shapes.specs.Rooted.{Good}
use Rattle.shapes.proofs.SoundRoots.{sound_rooted}
use Rattle.sharing.specs.Masks.{open_bit, reach_bit, one, Counted}
use Rattle.sharing.specs.Crowds.{is_crowd, reach_of, entry_of_slot, BlockOf, AllRooted, open_count, reach_count, crowded, entry_for, full_at, Gathered, GatheredAll, entry_opens, entry_reaches}

module _ (F : Frame) (m : List ℕ) where
  -- a page of block b
  in_block : (b q : ℕ) → q < block_pages → pn2 (b * block_pages + q) ≡ b
  unfolding pn2
  in_block b q u = omega arith

  -- by what the walk finds, where nothing is found by none
  by_entry : (has : Found → Bool) → has (perm 0) ≡ false → (slot : Slot) (b q : ℕ) → BlockOf F b → q < block_pages
      → (is_open slot && has (walk F m (ppn_of F.layout (register slot)) (b * block_pages + q))) ≡ has (found F m (entry_of_slot F m slot b) (b * block_pages + q))
  unfolding entry_of_slot found
  by_entry has none slot b q inside u =
      split (is_open slot)
      (λ z. rw z (ap has (walk_in F m (ppn_of F.layout (register slot)) (b * block_pages + q) (omega (arith, inside.1))
      ∙ ap (λ (k : ℕ). found F m (entry_at F m (ppn_of F.layout (register slot)) k) (b * block_pages + q)) (in_block b q u))))
      (λ z. rw z (sym none))

  module _ (slots : List Slot) (b : ℕ) (inside : BlockOf F b) (i q : ℕ) (u : q < block_pages) where
    slot_opens : by_slot F m slots (opens F m) i (b * block_pages + q) ≡ grants_any (found F m (entry_of_slot F m (slot_at slots i) b) (b * block_pages + q))
    unfolding by_slot opens grants_any grants may may_rows column_of
    slot_opens = by_entry grants_any refl (slot_at slots i) b q inside u

    slot_reaches : (s : Strength) → by_slot F m slots (reaches F m s) i (b * block_pages + q) ≡ reach_of s (found F m (entry_of_slot F m (slot_at slots i) b) (b * block_pages + q))
    unfolding by_slot opens reaches writes reach_of grants_any grants may may_rows column_of
    slot_reaches strict = by_entry grants_any refl (slot_at slots i) b q inside u
    slot_reaches sharing = by_entry (λ f. grants f write) refl (slot_at slots i) b q inside u

  -- the entry of a slot is good
  pub slot_good : (slots : List Slot) → AllRooted F m slots → (b i : ℕ) → b < blocks F → Good F m (entry_of_slot F m (slot_at slots i) b)
  unfolding entry_of_slot
  slot_good slots rooted b i u = split (is_open (slot_at slots i)) (λ z. rw z ((rooted i z).good b u)) (λ z. rw z (omega arith))

  -- ---- what is gathered

  same_counts : (s : Strength) (c d c' d' : ℕ → ℕ) (r : Shares) → ((q : ℕ) → q < block_pages → c' q ≡ c q) → ((q : ℕ) → q < block_pages → d' q ≡ d q)
      → Gathered F m s c d r → Gathered F m s c' d' r
  same_counts s c d c' d' r e e' h =
      record {
        size = h.size;
        few = h.few;
        inside = h.inside;
        opened = h.opened;
        reached = h.reached;
        even = h.even;
        opens = λ q u. e q u ∙ h.opens q u;
        reaches = λ q u. e' q u ∙ h.reaches q u;
      }

  pub gathered_none : (s : Strength) (slots : List Slot) (b : ℕ) (masks : Masks) → ((k : ℕ) → Counted masks k 0 0)
      → GatheredAll F m s slots b 0 (record { even = masks; tables = replicate slot_count 0; count = 0 })
  unfolding sum
  gathered_none s slots b masks h =
      record {
        size = refl;
        few = omega arith;
        inside = λ t u. absurd (omega arith);
        opened = λ j. 0;
        reached = λ j. 0;
        even = λ j u. h (2 * j);
        opens = λ q u. refl;
        reaches = λ q u. refl;
      }

  -- with slot i, whose entry is e
  pub gathered_more : (s : Strength) (slots : List Slot) (b i : ℕ) (r : Shares) → BlockOf F b → (e : Entry) → e ≡ entry_of_slot F m (slot_at slots i) b
      → Gathered F m s
      (λ q. open_count F m slots i (b * block_pages + q) + entry_opens F m s e b q)
      (λ q. reach_count F m slots s i (b * block_pages + q) + entry_reaches F m s e b q) r
      → GatheredAll F m s slots b (i + 1) r
  gathered_more s slots b i r inside e z h =
      same_counts s _ _ _ _ r
      (λ q u. sum_last (λ k. one (by_slot F m slots (opens F m) k (b * block_pages + q))) i
      ∙ ap (λ (x : Bool). open_count F m slots i (b * block_pages + q) + one x)
      (slot_opens slots b inside i q u ∙ ap (λ (y : Entry). grants_any (found F m y (b * block_pages + q))) (sym z)))
      (λ q u. sum_last (λ k. one (by_slot F m slots (reaches F m s) k (b * block_pages + q))) i
      ∙ ap (λ (x : Bool). reach_count F m slots s i (b * block_pages + q) + one x)
      (slot_reaches slots b inside i q u s ∙ ap (λ (y : Entry). reach_of s (found F m y (b * block_pages + q))) (sym z))) h

-- the blocks are the whole address space
pub blocks_space : (F : Frame) → 30 ≤ F.paw → space F ≡ blocks F * block_pages
unfolding space blocks
blocks_space F l =
    let e : F.paw - 12 ≡ F.paw - 25 + 13 = omega arith in
    ap (λ (k : ℕ). 2 ^ k) e ∙ pow-add 2 (F.paw - 25) 13

-- the first count of some L1 pages say the same as a list of their own
pub full_first : (L : Layout) (m tables : List ℕ) (s : Strength) (count c d q : ℕ) → count ≤ length tables
    → full_at L m (take count tables) s (length (take count tables)) c d q ≡ full_at L m tables s count c d q
full_first L m tables s count c d q few =
    let same : (g : ℕ → Bool) → sum (λ t. one (g (entry_for L m (take count tables) t q))) count 0 ≡ sum (λ t. one (g (entry_for L m tables t q))) count 0
    = λ g. sum_cong _ _ count 0 (λ k lo hi. ap (λ (x : ℕ). one (g (get_or m (x + q / L.fields) 0))) (get_or-take count tables k 0 (omega arith))) in
    ap (λ (n : ℕ). full_at L m (take count tables) s n c d q) (length-take-le count tables few)
    ∙ ap₂ (λ (x y : ℕ). is_crowd (c + x) (d + y)) (same (λ w. open_bit w (4 * (q % L.fields)))) (same (λ w. reach_bit s w (4 * (q % L.fields))))

-- a page is crowded as what was gathered of its block says
module _ (F : Frame) (m : List ℕ) (slots : List Slot) (s : Strength) (b : ℕ) (r : Shares) (h : GatheredAll F m s slots b slot_count r) where
  pub crowd_gathered : (q : ℕ) → q < block_pages
      → crowded F m slots s (b * block_pages + q) ≡ full_at F.layout m r.tables s r.count (h.opened (q / piece_pages F.layout)) (h.reached (q / piece_pages F.layout)) q
  unfolding crowded
  crowd_gathered q u = ap₂ is_crowd (h.opens q u) (h.reaches q u)

  -- with no L1 page
  pub crowd_even : r.count ≡ 0 → (q : ℕ) → q < block_pages
      → crowded F m slots s (b * block_pages + q) ≡ is_crowd (h.opened (q / piece_pages F.layout)) (h.reached (q / piece_pages F.layout))
  unfolding sum
  crowd_even z q u =
      crowd_gathered q u
      ∙ ap (λ (n : ℕ). full_at F.layout m r.tables s n (h.opened (q / piece_pages F.layout)) (h.reached (q / piece_pages F.layout)) q) z
      ∙ ap₂ is_crowd (add-zero (h.opened (q / piece_pages F.layout))) (add-zero (h.reached (q / piece_pages F.layout)))

  -- with one, and nothing open to the slots that have none
  pub crowd_alone : r.count ≡ 1 → ((q : ℕ) → q < block_pages → h.opened (q / piece_pages F.layout) ≡ 0) → (q : ℕ) → q < block_pages
      → crowded F m slots s (b * block_pages + q) ≡ false
  unfolding sum
  crowd_alone z none q u =
      crowd_gathered q u
      ∙ ap₂ (λ (n o : ℕ). full_at F.layout m r.tables s n o (h.reached (q / piece_pages F.layout)) q) z (none q u)
      ∙ single (open_bit (entry_for F.layout m r.tables 0 q) (4 * (q % F.layout.fields))) _
    where
      single : (o x : Bool) → (leb 2 (0 + (one o + 0)) && x) ≡ false
      single true x = refl
      single false x = refl

-- the root of each open slot of a sound table is `Rooted`
pub all_rooted : (F : Frame) (m : List ℕ) (slots : List Slot) → Lawful F.layout → frame_ok F m ≡ true → sound F m slots ≡ true → AllRooted F m slots
unfolding slot_at
all_rooted F m slots lawful one three i z =
    sound_rooted F (frame_ok_lem F m lawful one).0 (roots F slots) m (sounds F lawful slots m one three) (ppn_of F.layout (register (slot_at slots i)))
    (domain_root F slots (register (slot_at slots i)) (open_domain slots i z))
