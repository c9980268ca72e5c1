-- The finished form, computed by runs of pages and not page by page: the same, and quick enough for the cases.
-- The idea: a run of pages that lies in the range is of the asked permission; one that misses it is as its L2 entry says, and a flat
-- entry, one piece of an entry by pieces, or one L1 entry whose fields are all one says one permission for all of them. Any other run is
-- halved.
use Rattle.std.specs.Prelude.{if◌then◌else◌}
use mathlib.Core.Path.{◌≡◌, refl, sym, ap, ap₂, ◌∙◌, fun_ext}
use mathlib.Core.Bool.{Bool, true, false, ◌&&◌, ◌||◌}
use mathlib.Core.List.{List, [], ◌∷◌, ◌++◌}
use Prim.Native.Nat.{ℕ, zero, suc, ◌+◌, ◌*◌, ◌-◌, ◌/◌, ◌%◌, ◌≤◌, ◌<◌}
use native.Mathlib.Nat.{div-add-mod', le-div_iff_mul-le, le_antisymm, mod-lt}
use native.Mathlib.Omega.{arith}
use lib.Dec.{eqb, leb, ltb}
use borrow.Author.Tests.{eqb-true, ltb-true, lt-ltb, le-ltb, leb-true, le-leb, lt-leb}
use Rattle.model.specs.Numbers.{every, digit, pack}
use Rattle.model.specs.Layout.{page_bytes, block_pages, gib_blocks, piece_pages}
use Rattle.model.specs.Entry.{Entry, flat, pieces, table, invalid, Found, perm, faults, clean, field_of}
use Rattle.model.specs.Frame.{Frame, lent}
use Rattle.model.specs.Walk.{pn0, pn1, pn2, piece_of, entry_at, found}
use Rattle.model.specs.Sound.{Slot}
use Rattle.model.specs.Forms.{Request, Form, want_flat, want_pieces, want_table, perm_of, in_range, after_in, all_are, piece_start, pieces_are_one, pieces_info, form_in, gib_first, gib_is_one, forms_in, forms_of, forms, first_gib, gibs}
use Rattle.model.specs.Calls.{root_of, finished, edit_with, edit_slot}
use Rattle.laws.proofs.Choices.{split, by_test, and_true, or_left, elim_and}
use Rattle.laws.proofs.Every.{every_constant, every_split}
use Rattle.laws.proofs.Digits.{digit_one}
use Rattle.laws.proofs.Peeks.{peek, word_is_peek}

-- ---- a run of pages, seen from the range

module _ (q : Request) where
  -- the n pages from s lie in the range; none does
  unfoldable pub covers : ℕ → ℕ → Bool
  covers n s = leb q.start (s * page_bytes) && leb ((s + n) * page_bytes) (q.start + q.size)

  unfoldable pub misses : ℕ → ℕ → Bool
  misses n s = leb ((s + n) * page_bytes) q.start || leb (q.start + q.size) (s * page_bytes)

  pub covered : (n s k : ℕ) → covers n s ≡ true → s ≤ k → k < s + n → in_range q k ≡ true
  unfolding covers in_range
  covered n s k h lo hi =
      let c = and_true (leb q.start (s * page_bytes)) (leb ((s + n) * page_bytes) (q.start + q.size)) h in
      let a = leb-true q.start (s * page_bytes) c.0 in
      let b = leb-true ((s + n) * page_bytes) (q.start + q.size) c.1 in
      rw (le-leb q.start (k * page_bytes) (omega arith), lt-ltb (k * page_bytes) (q.start + q.size) (omega arith)) refl

  pub missed : (n s k : ℕ) → misses n s ≡ true → s ≤ k → k < s + n → in_range q k ≡ false
  unfolding misses in_range
  missed n s k h lo hi =
      split (leb ((s + n) * page_bytes) q.start)
      (λ c. let a = leb-true ((s + n) * page_bytes) q.start c in rw (lt-leb q.start (k * page_bytes) (omega arith)) refl)
      (λ c. let a = leb-true (q.start + q.size) (s * page_bytes) (or_left _ _ h c) in
      split (leb q.start (k * page_bytes))
      (λ d. rw (d, le-ltb (k * page_bytes) (q.start + q.size) (omega arith)) refl)
      (λ d. rw d refl))

-- ---- pages between two of one piece are of that piece

div_mono : (d a b : ℕ) → 0 < d → a ≤ b → a / d ≤ b / d
div_mono d a b pos h = (le-div_iff_mul-le pos).1 (omega (arith, div-add-mod' a d))

module _ (F : Frame) (pos : 0 < piece_pages F.layout) where
  pub one_piece : (s e k : ℕ) → pn2 s ≡ pn2 e → piece_of F.layout s ≡ piece_of F.layout e → s ≤ k → k ≤ e → piece_of F.layout k ≡ piece_of F.layout s
  unfolding piece_of pn2
  one_piece s e k b p lo hi =
      le_antisymm
      (rw p (div_mono (piece_pages F.layout) _ _ pos (omega arith)))
      (div_mono (piece_pages F.layout) _ _ pos (omega arith))

  pub one_entry : (s e k : ℕ) → 0 < F.layout.fields → s / F.layout.fields ≡ e / F.layout.fields → s ≤ k → k ≤ e → pn1 F.layout k ≡ pn1 F.layout s
  unfolding pn1
  one_entry s e k l h lo hi =
      ap (λ (j : ℕ). j % F.layout.words)
      (le_antisymm (rw h (div_mono F.layout.fields k e l hi)) (div_mono F.layout.fields s k l lo))

  -- ---- all of a run are of one permission

  module _ (m : List ℕ) (q : Request) where
    pub after_inside : (e : Entry) (k : ℕ) → in_range q k ≡ true → after_in F m q e k ≡ q.permission
    unfolding after_in
    after_inside e k h = rw h

    -- what an entry says of a page: in an L1 page, whose words are read quickly, pn[1] chooses the entry and pn[0] its field
    unfoldable pub says : Entry → ℕ → ℕ
    says (flat x) n = x
    says (pieces i) n = digit 4 i (piece_of F.layout n)
    says (table t) n = if lent F t then perm_of (field_of F.layout (peek F m t (pn1 F.layout n)) (pn0 F.layout n)) else 0
    says invalid n = 0

    found_says : (e : Entry) (n : ℕ) → perm_of (found F m e n) ≡ says e n
    unfolding says found perm_of
    found_says (flat x) n = refl
    found_says (pieces i) n = refl
    found_says (table t) n =
        split (lent F t)
        (λ h. rw h (ap (λ (w : ℕ). perm_of (field_of F.layout w (pn0 F.layout n))) (word_is_peek F m t (pn1 F.layout n))))
        (λ h. rw h refl)
    found_says invalid n = refl

    pub after_outside : (e : Entry) (k : ℕ) → in_range q k ≡ false → after_in F m q e k ≡ says e k
    unfolding after_in
    after_outside e k h = rw h (found_says e k)

    -- the permission once the edit is whole, with the words of L1 pages read quickly
    unfoldable pub quick_after : Entry → ℕ → ℕ
    quick_after e n = if in_range q n then q.permission else says e n

    pub after_quick : (e : Entry) (n : ℕ) → after_in F m q e n ≡ quick_after e n
    unfolding after_in quick_after
    after_quick e n = ap (λ (p : ℕ). if in_range q n then q.permission else p) (found_says e n)

    -- the fields of a word are all one
    unfoldable pub all_one : ℕ → Bool
    all_one w = eqb w (w % 16 * pack 16 (λ k. 1) F.layout.fields 0)

    -- the n pages from s are of one permission by the entry's form: by a flat entry; by one piece; by one L1 entry whose fields are all one
    unfoldable pub says_one : Entry → ℕ → ℕ → Bool
    says_one (flat x) n s = true
    says_one (pieces i) n s = eqb (pn2 s) (pn2 (s + n - 1)) && eqb (piece_of F.layout s) (piece_of F.layout (s + n - 1))
    says_one (table t) n s =
        ltb 0 F.layout.fields && (eqb (s / F.layout.fields) ((s + n - 1) / F.layout.fields) && all_one (peek F m t (pn1 F.layout s)))
    says_one invalid n s = true

    -- so the n pages from s are of one permission once the edit is whole
    unfoldable pub alike : Entry → ℕ → ℕ → Bool
    alike e n s = ltb 0 n && (covers q n s || (misses q n s && says_one e n s))

    -- every page of such an L1 entry reads one field
    fields_one : (w k : ℕ) → 0 < F.layout.fields → all_one w ≡ true → field_of F.layout w (pn0 F.layout k) ≡ (if clean F.layout w then perm (w % 16 % 4) else faults)
    unfolding all_one field_of pn0
    fields_one w k l h =
        ap (λ (d : ℕ). if clean F.layout w then perm (d % 4) else faults) (digit_one 16 w F.layout.fields (k % F.layout.fields) (omega arith) (eqb-true _ _ h) (mod-lt k l))

    says_one_lem : (e : Entry) (n s k : ℕ) → says_one e n s ≡ true → s ≤ k → k < s + n → says e k ≡ says e s
    unfolding says_one says
    says_one_lem (flat x) n s k h lo hi = refl
    says_one_lem (pieces i) n s k h lo hi =
        let both = and_true _ _ h in
        ap (λ (j : ℕ). digit 4 i j) (one_piece s (s + n - 1) k (eqb-true _ _ both.0) (eqb-true _ _ both.1) lo (omega arith))
    says_one_lem (table t) n s k h lo hi =
        let some = and_true (ltb 0 F.layout.fields) _ h in
        let l = ltb-true 0 F.layout.fields some.0 in
        let both = and_true (eqb (s / F.layout.fields) ((s + n - 1) / F.layout.fields)) _ some.1 in
        let w : ℕ = peek F m t (pn1 F.layout s) in
        ap (λ (x : Found). if lent F t then perm_of x else 0)
        (ap (λ (i : ℕ). field_of F.layout (peek F m t i) (pn0 F.layout k)) (one_entry s (s + n - 1) k l (eqb-true _ _ both.0) lo (omega arith))
        ∙ fields_one w k l both.1
        ∙ sym (fields_one w s l both.1))
    says_one_lem invalid n s k h lo hi = refl

    pub after_alike : (e : Entry) (n s k : ℕ) → (covers q n s || (misses q n s && says_one e n s)) ≡ true → s ≤ k → k < s + n → after_in F m q e k ≡ after_in F m q e s
    after_alike e n s k h lo hi =
        split (covers q n s)
        (λ c. after_inside e k (covered q n s k c lo hi) ∙ sym (after_inside e s (covered q n s s c (omega arith) (omega arith))))
        (λ c. let both = and_true (misses q n s) (says_one e n s) (or_left _ _ h c) in
        after_outside e k (missed q n s k both.0 lo hi)
        ∙ says_one_lem e n s k both.1 lo hi
        ∙ sym (after_outside e s (missed q n s s both.0 (omega arith) (omega arith))))

    -- the n pages from s are of permission p: told by the first, or else by halves, d times at the most
    unfoldable pub run_is : ℕ → Entry → ℕ → ℕ → ℕ → Bool
    run_is zero e p n s = all_are F m q e p n s
    run_is (suc d) e p n s =
        elim (alike e n s) [
          | true ↦ eqb (quick_after e s) p
          | false ↦ elim (run_is d e p (n / 2) s) [ true ↦ run_is d e p (n - n / 2) (s + n / 2) | false ↦ false ]
        ]

    abbrev is : Entry → ℕ → ℕ → Bool
    is e p k = eqb (after_in F m q e k) p

    pub run_same : (d : ℕ) (e : Entry) (p n s : ℕ) → all_are F m q e p n s ≡ run_is d e p n s
    unfolding all_are run_is alike
    run_same zero e p n s = refl
    run_same (suc d) e p n s =
        by_test (alike e n s)
        (λ z. let both = and_true (ltb 0 n) _ z in
        every_constant (is e p) (eqb (quick_after e s) p) n s (ltb-true 0 n both.0)
        (λ k lo hi. ap (λ (y : ℕ). eqb y p) (after_alike e n s k both.1 lo hi ∙ after_quick e s)))
        (λ z. let sum : n / 2 + (n - n / 2) ≡ n = omega arith in
        sym (ap (λ (k : ℕ). every (is e p) k s) sum)
        ∙ every_split (is e p) (n / 2) (n - n / 2) s
        ∙ ap₂ (λ (a b : Bool). a && b) (run_same d e p (n / 2) s) (run_same d e p (n - n / 2) (s + n / 2))
        ∙ sym (elim_and (run_is d e p (n / 2) s) (run_is d e p (n - n / 2) (s + n / 2))))

-- ---- the finished form by any such test

abbrev pub Test : Type 0
Test = Entry → ℕ → ℕ → ℕ → Bool

module _ (F : Frame) (m : List ℕ) (q : Request) (root : ℕ) (all : Test) where
  unfoldable pub gib_by : ℕ → ℕ → Bool
  gib_by g p = every (λ b. all (entry_at F m root b) p block_pages (b * block_pages)) gib_blocks (g * gib_blocks)

  unfoldable pub form_by : Bool → ℕ → Entry → ℕ → Form
  form_by gibOne p e b =
      if gibOne then want_flat p else
      if every (λ i. all e (after_in F m q e (piece_start F b i)) (piece_pages F.layout) (piece_start F b i)) F.layout.pieces 0 then want_pieces (pieces_info F m q e b) else
      want_table

  unfoldable pub forms_in_by : Bool → ℕ → ℕ → ℕ → List Form
  forms_in_by gibOne p zero b = []
  forms_in_by gibOne p (suc n) b = form_by gibOne p (entry_at F m root b) b ∷ forms_in_by gibOne p n (suc b)

  unfoldable pub forms_by : ℕ → ℕ → List Form
  forms_by zero g = []
  forms_by (suc n) g = forms_in_by (gib_by g (gib_first F m q root g)) (gib_first F m q root g) gib_blocks (g * gib_blocks) ++ forms_by n (suc g)

module _ (F : Frame) (m : List ℕ) (q : Request) (root : ℕ) where
  same_in : (gibOne : Bool) (p n b : ℕ) → forms_in F m q root gibOne p n b ≡ forms_in_by F m q root (all_are F m q) gibOne p n b
  unfolding forms_in forms_in_by form_in form_by pieces_are_one
  same_in gibOne p zero b = refl
  same_in gibOne p (suc n) b = ap (λ (l : List Form). form_in F m q gibOne p (entry_at F m root b) b ∷ l) (same_in gibOne p n (suc b))

  same_of : (n g : ℕ) → forms_of F m q root n g ≡ forms_by F m q root (all_are F m q) n g
  unfolding forms_of forms_by gib_is_one gib_by
  same_of zero g = refl
  same_of (suc n) g =
      ap₂ (λ (x y : List Form). x ++ y) (same_in (gib_is_one F m q root g (gib_first F m q root g)) (gib_first F m q root g) gib_blocks (g * gib_blocks)) (same_of n (suc g))

  -- a block halved nine times is the 16 pages of one L1 entry; once more, for an entry that the range meets
  abbrev pub halvings : ℕ
  halvings = 10

  -- the finished forms, by runs of pages
  unfoldable pub quick_forms : 0 < piece_pages F.layout → List Form
  quick_forms pos = forms_by F m q root (run_is F pos m q halvings) (gibs q) (first_gib q)

  pub forms_quick : (pos : 0 < piece_pages F.layout) → forms F m q root ≡ quick_forms pos
  unfolding forms quick_forms
  forms_quick pos =
      same_of (gibs q) (first_gib q)
      ∙ ap (λ (t : Test). forms_by F m q root t (gibs q) (first_gib q)) (fun_ext λ e. fun_ext λ p. fun_ext λ n. fun_ext λ s. run_same F pos m q halvings e p n s)

-- an edit, with its finished forms computed so
pub edit_quick : (F : Frame) (pos : 0 < piece_pages F.layout) (m : List ℕ) (slots : List Slot) (q : Request) (limit : ℕ)
    → edit_slot F m slots q limit ≡ edit_with F m slots q (quick_forms F m q (root_of F slots q) pos) limit
unfolding edit_slot finished
edit_quick F pos m slots q limit = ap (λ (fs : List Form). edit_with F m slots q fs limit) (forms_quick F m q (root_of F slots q) pos)
