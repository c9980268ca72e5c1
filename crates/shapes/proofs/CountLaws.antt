-- The new pages of an edit. Only the blocks at the two ends of the range can take one.
use Rattle.std.specs.Prelude.{if◌then◌else◌}
use mathlib.Core.Path.{◌≡◌, refl, sym, ap, ap₂, ◌∙◌, subst}
use mathlib.Core.Bool.{Bool, true, false}
use mathlib.Core.Logic.{◌≢◌}
use mathlib.Core.List.{List, [], ◌∷◌}
use Prim.Native.Nat.{ℕ, suc, ◌+◌, ◌*◌, ◌-◌, ◌/◌, ◌%◌, ◌^◌, ◌≤◌, ◌<◌}
use native.Mathlib.Nat.{add-mul, mul_assoc, suc-mul, div-add-mod', lt_of_mul-lt-mul_right, mul-le-mul_right}
use native.Mathlib.Omega.{arith}
use lib.Dec.{eqb, ltb, leb}
use lib.Pow.{pow_mono}
use lib.ListN.{length}
use borrow.Author.Tests.{eqb-true, ltb-true, ltb-false, leb-true, leb-false}
use Rattle.laws.proofs.Choices.{split}
use Rattle.laws.proofs.Every.{every_in}
use Rattle.laws.proofs.Sums.{sum, sum_cong, sum_change, sum_const, sum_split}
use Rattle.model.specs.Entry.{Entry, flat, pieces, table, invalid}
use Rattle.model.specs.Forms.{Request, Form, want_flat, want_pieces, want_table, in_range, perm_of, after_in, all_are, form_in, gib_first, gib_is_one, forms, first_gib, gibs}
use Rattle.model.specs.Frame.{Frame, blocks}
use Rattle.model.specs.Layout.{block_pages, gib_blocks, page_bytes, piece_pages}
use Rattle.model.specs.Numbers.{digit, pack}
use Rattle.model.specs.Stores.{needs_page, new_pages}
use Rattle.model.specs.Walk.{entry_at, found}
use Rattle.theory.proofs.Forms.{forms_all, forms_length}
use Rattle.theory.proofs.Frames.{Ok, frame_ok_lem}
use Rattle.theory.proofs.Plans.{AllAt}
use Rattle.theory.proofs.Ranges.{good_range, touched_inside}
use Rattle.shapes.specs.Rooted.{Good}
use Rattle.shapes.specs.Blocks.{Ranged, block_is, whole_pages}
use Rattle.shapes.proofs.Shape.{Shape, piece_in_block, piece_number, piece_of_lem}
use Rattle.laws.proofs.InRange.{in_true, below_false, above_false, in_at, out_above}
use Rattle.shapes.proofs.FormLaws.{known_form, form_inside}

-- ---- sums of which one or two terms are not zero

sum_only : (g : ℕ → ℕ) (b n s : ℕ) → s ≤ b → b < s + n → ((k : ℕ) → s ≤ k → k < s + n → k ≢ b → g k ≡ 0) → sum g n s ≡ g b
sum_only g b n s lo hi z = omega (arith, sum_change g (λ k. 0) b n s (λ k l u ne. sym (z k l u ne)) lo hi, sum_const 0 n s)

sum_both : (g : ℕ → ℕ) (a b n s : ℕ) → s ≤ a → a < b → b < s + n → ((k : ℕ) → s ≤ k → k < s + n → k ≢ a → k ≢ b → g k ≡ 0) → sum g n s ≡ g a + g b
sum_both g a b n s la lb hi z =
    let u : n ≡ (b - s) + (s + n - b) = omega arith in
    let v : s + (b - s) ≡ b = omega arith in
    ap (λ (k : ℕ). sum g k s) u
    ∙ sum_split g (b - s) (s + n - b) s
    ∙ ap₂ (λ (x y : ℕ). x + y)
    (sum_only g a (b - s) s la (omega arith) (λ k l h ne. z k l (omega arith) ne (λ e. omega (arith, e))))
    (ap (sum g (s + n - b)) v ∙ sum_only g b (s + n - b) b (omega arith) (omega arith) (λ k l h ne. z k (omega arith) (omega arith) (λ e. omega (arith, e)) ne))

-- ---- blocks that take no new page

no_page : {x : ℕ} {fm : Form} (e : Entry) → want_pieces x ≡ fm → needs_page fm e ≡ false
unfolding needs_page
no_page e z = subst (λ (y : Form). needs_page y e ≡ false) z refl

-- a block that has an L1 page
pub table_none : (e : Entry) (fm : Form) → needs_page want_table e ≡ false → needs_page fm e ≡ false
unfolding needs_page
table_none e (want_flat x) z = refl
table_none e (want_pieces x) z = refl
table_none e want_table z = z

module _ (F : Frame) (sh : Shape F.layout) (m : List ℕ) (q : Request) (low : q.permission < 4) (e : Entry) (g : Good F m e) (b : ℕ) where
  abbrev PP : ℕ
  PP = piece_pages F.layout

  inside_none : ((k : ℕ) → b * block_pages ≤ k → k < b * block_pages + block_pages → in_range q k ≡ true) → needs_page (form_in F m q false 0 e b) e ≡ false
  inside_none h = no_page e (form_inside F sh m q low e g b h)

  -- a block of one permission
  one_none : (p : ℕ) → all_are F m q e p block_pages (b * block_pages) ≡ true → needs_page (form_in F m q false 0 e b) e ≡ false
  unfolding all_are
  one_none p h =
      no_page e
      (known_form F sh m q low e g b (λ i. p) (pack 4 (λ i. p) F.layout.pieces 0)
      (λ i k u lo hi. eqb-true _ _ (every_in (λ n. eqb (after_in F m q e n) p) block_pages (b * block_pages) h k (omega arith) (omega (arith, piece_in_block sh i u)))) refl)

  -- a block whose pieces each lie in the range or outside it
  pieces_none : ((i k : ℕ) → i < F.layout.pieces → b * block_pages + i * PP ≤ k → k < b * block_pages + i * PP + PP → in_range q k ≡ in_range q (b * block_pages + i * PP))
      → needs_page (form_in F m q false 0 e b) e ≡ false
  unfolding after_in found perm_of needs_page
  pieces_none h = go e refl
    where
      -- the piece's permission, if the entry says of piece i what `says` has
      permission_of : (ℕ → ℕ) → ℕ → ℕ
      permission_of says i = if in_range q (b * block_pages + i * PP) then q.permission else says i

      no_page_if : (says : ℕ → ℕ) → ((i k : ℕ) → i < F.layout.pieces → b * block_pages + i * PP ≤ k → k < b * block_pages + i * PP + PP → perm_of (found F m e k) ≡ says i)
          → needs_page (form_in F m q false 0 e b) e ≡ false
      no_page_if says t =
          no_page e
          (known_form F sh m q low e g b (permission_of says) (pack 4 (permission_of says) F.layout.pieces 0)
          (λ i k u lo hi. ap₂ (λ (x : Bool) (p : ℕ). if x then q.permission else p) (h i k u lo hi) (t i k u lo hi)) refl)

      go : (x : Entry) → e ≡ x → needs_page (form_in F m q false 0 e b) e ≡ false
      go (flat p) z = no_page_if (λ i. p) (λ i k u lo hi. rw z)
      go (pieces x) z = no_page_if (digit 4 x) (λ i k u lo hi. rw z (ap (digit 4 x) (piece_of_lem sh b i k u lo hi)))
      go (table t) z = table_none e (form_in F m q false 0 e b) (ap (needs_page want_table) z)
      go invalid z = no_page_if (λ i. 0) (λ i k u lo hi. rw z)

  outside_none : ((k : ℕ) → b * block_pages ≤ k → k < b * block_pages + block_pages → in_range q k ≡ false) → needs_page (form_in F m q false 0 e b) e ≡ false
  outside_none h =
      pieces_none (λ i k u lo hi. let v = piece_in_block sh i u in h k (omega arith) (omega arith) ∙ sym (h (b * block_pages + i * PP) (omega arith) (omega arith)))

-- a range of whole pieces: each piece lies in it or outside it
module _ (d : ℕ) (q : Request) (whole-start : q.start % (d * page_bytes) ≡ 0) (whole-size : q.size % (d * page_bytes) ≡ 0) where
  whole : (x : ℕ) → x % (d * page_bytes) ≡ 0 → x ≡ x / (d * page_bytes) * d * page_bytes
  whole x z = omega (arith, div-add-mod' x (d * page_bytes), mul_assoc (x / (d * page_bytes)) d page_bytes)

  -- what begins below a boundary of pieces ends there
  piece_below : (a p : ℕ) → p * d < a * d → p * d + d ≤ a * d
  piece_below a p h = omega (arith, suc-mul p d, mul-le-mul_right d (lt_of_mul-lt-mul_right d h))

  in_or_out : (p k : ℕ) → p * d ≤ k → k < p * d + d → in_range q k ≡ in_range q (p * d)
  in_or_out p k lo hi =
      let A : ℕ = q.start / (d * page_bytes) in
      let B : ℕ = q.size / (d * page_bytes) in
      let start = whole q.start whole-start in
      let size = whole q.size whole-size in
      let end = add-mul A B d in
      split (in_range q (p * d))
      (λ y. let h = in_at q (p * d) y in in_true q k (omega arith) (omega (arith, piece_below (A + B) p (omega arith))) ∙ sym y)
      (λ y. split (leb q.start (p * d * page_bytes))
      (λ l. above_false q k (omega (arith, out_above q (p * d) y (leb-true q.start (p * d * page_bytes) l))) ∙ sym y)
      (λ l. let h = leb-false q.start (p * d * page_bytes) l in below_false q k (omega (arith, piece_below A p (omega arith))) ∙ sym y))

-- ---- the count

at_most_one : (x : Bool) (n : ℕ) → n ≡ (if x then 1 else 0) → n ≤ 1
at_most_one true n e = omega (arith, e)
at_most_one false n e = omega (arith, e)

-- 1 for a block that takes a new page, 0 for any other, whatever its GiB
abbrev pub pages_at : Frame → List ℕ → Request → ℕ → ℕ → ℕ
pages_at F m q root c = if needs_page (form_in F m q false 0 (entry_at F m root c) c) (entry_at F m root c) then 1 else 0

-- the blocks of the range's first byte and of its last
abbrev pub low_block : Request → ℕ
low_block q = q.start / (block_pages * page_bytes)

abbrev pub high_block : Request → ℕ
high_block q = (q.start + q.size - 1) / (block_pages * page_bytes)

module _ {F : Frame} {m : List ℕ} {q : Request} {root : ℕ} (sh : Shape F.layout) (r : Ranged F m q root) where
  abbrev need : ℕ → Bool
  need c = needs_page (form_in F m q false 0 (entry_at F m root c) c) (entry_at F m root c)

  abbrev G : ℕ → ℕ
  G c = pages_at F m q root c

  pub one_at_most : (c n : ℕ) → n ≡ pages_at F m q root c → n ≤ 1
  one_at_most c n e = at_most_one (need c) n e

  ok : Ok F
  ok = (frame_ok_lem F m sh.lawful r.ok_frame).0

  pub ends : q.start + q.size ≤ 2 ^ F.layout.max_paw
  ends = omega (arith, (good_range F q r.range).ends, pow_mono {i = F.paw} {j = F.layout.max_paw} ok.paw_high)

  pub some : 0 < q.size
  some = (good_range F q r.range).some

  room : first_gib q * gib_blocks + gibs q * gib_blocks ≤ blocks F
  room = touched_inside F q (good_range F q r.range) ok

  low_touched : first_gib q * gib_blocks ≤ low_block q
  unfolding first_gib
  low_touched = omega arith

  high_touched : high_block q < first_gib q * gib_blocks + gibs q * gib_blocks
  unfolding first_gib gibs
  high_touched = omega (arith, some)

  good : (c : ℕ) → c < blocks F → Good F m (entry_at F m root c)
  good = r.rooted.good

  -- in a GiB of one permission no block takes a page, and its form alone would not either
  need_here : (g c : ℕ) → g * gib_blocks ≤ c → c < g * gib_blocks + gib_blocks → c < blocks F
      → needs_page (form_in F m q (gib_is_one F m q root g (gib_first F m q root g)) (gib_first F m q root g) (entry_at F m root c) c) (entry_at F m root c) ≡ need c
  unfolding form_in needs_page gib_is_one
  need_here g c l u v =
      let p : ℕ = gib_first F m q root g in
      let e : Entry = entry_at F m root c in
      split (gib_is_one F m q root g p)
      (λ z.
      ap (λ (x : Bool). needs_page (form_in F m q x p e c) e) z
      ∙ sym (one_none F sh m q r.small e (good c v) c p (every_in (block_is F m q root p) gib_blocks (g * gib_blocks) z c l u)))
      (λ z. ap (λ (x : Bool). needs_page (form_in F m q x p e c) e) z)

  as_sum : (fs : List Form) (b : ℕ) → AllAt (λ c fm. needs_page fm (entry_at F m root c) ≡ need c) b fs → new_pages F m root b fs ≡ sum G (length fs) b
  unfolding new_pages sum
  as_sum [] b h = refl
  as_sum (x ∷ fs) b h = ap₂ (λ (a : Bool) (n : ℕ). (if a then 1 else 0) + n) h.0 (as_sum fs (suc b) h.1)

  whole_sum : whole_pages F m q root ≡ sum G (gibs q * gib_blocks) (first_gib q * gib_blocks)
  whole_sum =
      as_sum (forms F m q root) (first_gib q * gib_blocks)
      (forms_all F ok q r.small root m (λ c fm. needs_page fm (entry_at F m root c) ≡ need c) (λ g c lo hi l u. need_here g c l u (omega (arith, room))))
      ∙ ap (λ (n : ℕ). sum G n (first_gib q * gib_blocks)) (forms_length F ok q r.small root m)

  none : (c : ℕ) → need c ≡ false → G c ≡ 0
  none c z = rw z

  other : (c : ℕ) → c < blocks F → c ≢ low_block q → c ≢ high_block q → G c ≡ 0
  other c v nl nh =
      let e : Entry = entry_at F m root c in
      none c
      (split (ltb c (low_block q))
      (λ z. let y : c < low_block q = ltb-true c (low_block q) z in
      outside_none F sh m q r.small e (good c v) c (λ k lo hi. below_false q k (omega arith)))
      (λ z. let y : low_block q ≤ c = ltb-false c (low_block q) z in
      split (ltb (high_block q) c)
      (λ x. let w : high_block q < c = ltb-true (high_block q) c x in
      outside_none F sh m q r.small e (good c v) c (λ k lo hi. above_false q k (omega (arith, some))))
      (λ x. let w : c ≤ high_block q = ltb-false (high_block q) c x in
      inside_none F sh m q r.small e (good c v) c (λ k lo hi. in_true q k (omega arith) (omega (arith, some))))))

  pub low_inside : low_block q < blocks F
  low_inside = omega (arith, room, high_touched, some)

  pub high_inside : high_block q < blocks F
  high_inside = omega (arith, room, high_touched)

  -- the range ends in the block in which it begins
  pub count_one : low_block q ≡ high_block q → pages_at F m q root (low_block q) ≡ whole_pages F m q root
  count_one same =
      sym (whole_sum ∙ sum_only G (low_block q) (gibs q * gib_blocks) (first_gib q * gib_blocks) low_touched (omega (arith, same, high_touched))
      (λ k lo hi ne. other k (omega (arith, room)) ne (λ e. ne (omega (arith, e, same)))))

  pub count_two : low_block q ≢ high_block q → pages_at F m q root (low_block q) + pages_at F m q root (high_block q) ≡ whole_pages F m q root
  count_two differ =
      let y : low_block q ≤ high_block q = omega (arith, some) in
      sym (whole_sum ∙ sum_both G (low_block q) (high_block q) (gibs q * gib_blocks) (first_gib q * gib_blocks) low_touched (omega (arith, differ)) high_touched
      (λ k lo hi nl nh. other k (omega (arith, room)) nl nh))

  -- a range of whole pieces takes no page: no piece is mixed that was not
  pub count_none : q.start % (piece_pages F.layout * page_bytes) ≡ 0 → q.size % (piece_pages F.layout * page_bytes) ≡ 0 → 0 ≡ whole_pages F m q root
  count_none whole-start whole-size =
      sym (whole_sum
      ∙ sum_cong G (λ c. 0) (gibs q * gib_blocks) (first_gib q * gib_blocks) (λ c lo hi.
      none c
      (pieces_none F sh m q r.small (entry_at F m root c) (good c (omega (arith, room))) c (λ i k u l h.
      let y = piece_number sh c i in
      in_or_out (piece_pages F.layout) q whole-start whole-size (c * F.layout.pieces + i) k (omega arith) (omega arith) ∙ ap (in_range q) y)))
      ∙ sum_const 0 (gibs q * gib_blocks) (first_gib q * gib_blocks)
      ∙ omega arith)
