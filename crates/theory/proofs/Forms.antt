-- The finished form: it fits the permissions after the edit, and depends on them alone.
use Rattle.std.specs.Prelude.{if◌then◌else◌}
use mathlib.Core.Path.{◌≡◌, refl, sym, ap, ap₂, ◌∙◌, subst}
use mathlib.Core.Bool.{Bool, true, false}
use mathlib.Core.List.{List, [], ◌∷◌, ◌++◌}
use Prim.Native.Nat.{ℕ, zero, suc, ◌+◌, ◌*◌, ◌≤◌, ◌<◌}
use native.Mathlib.Nat.{add-zero, zero-add, mul-le-mul_right}
use native.Mathlib.Omega.{arith}
use lib.Dec.{eqb}
use lib.ListN.{length, length-append}
use borrow.Author.Tests.{eqb-true}
use Rattle.model.specs.Layout.{piece_pages}
use Rattle.model.specs.Frame.{Frame, blocks, space}
use Rattle.model.specs.Walk.{entry_at, piece_of, pn2}
use Rattle.model.specs.Forms.{Form, Request, after, after_in, all_are, first_gib, form_in, forms, forms_in, forms_of, gib_first, gib_is_one, gibs, piece_start, pieces_are_one, pieces_info, want_flat, want_pieces, want_table}
use Rattle.laws.proofs.Choices.{split}
use Rattle.laws.proofs.Digits.{digit_pack, pack_cong, pack_lt}
use Rattle.laws.proofs.Every.{every_cong, every_in}
use Rattle.theory.proofs.Frames.{Ok, piece_high, piece_low, piece_lt, piece_pos, pn2_high, pn2_low, pn2_of, space_blocks}
use Rattle.theory.proofs.Finds.{after_small, after_in_small}
use Rattle.theory.proofs.Plans.{AllAt, Fits, FitsAll}

all_append : (Q : ℕ → Form → Type 0) (b : ℕ) (fs gs : List Form) → AllAt Q b fs → AllAt Q (b + length fs) gs → AllAt Q b (fs ++ gs)
all_append Q b [] gs h k = subst (λ (x : ℕ). AllAt Q x gs) (add-zero b) k
all_append Q b (f ∷ fs) gs h k =
    let z : b + suc (length fs) ≡ suc b + length fs = omega arith in
    (h.0, all_append Q (suc b) fs gs h.1 (subst (λ (x : ℕ). AllAt Q x gs) z k))

module _ (F : Frame) (ok : Ok F) (q : Request) (low : q.permission < 4) (ro : ℕ) where
  abbrev PP : ℕ
  PP = piece_pages F.layout

  -- a piece lies in its block
  piece_in : (i : ℕ) → i < F.layout.pieces → i * PP + PP ≤ 8192
  piece_in i h = subst (λ (k : ℕ). i * PP + PP ≤ k) ok.lawful.pieces_pages (omega (arith, mul-le-mul_right PP h))

  module _ (m : List ℕ) where
    abbrev A : ℕ → ℕ
    A = after F m q ro

    pub after_in_lem : (b k : ℕ) → pn2 k ≡ b → after_in F m q (entry_at F m ro b) k ≡ A k
    unfolding after
    after_in_lem b k h = ap (λ (c : ℕ). after_in F m q (entry_at F m ro c) k) (sym h)

    all_are_lem : (b p n s k : ℕ) → all_are F m q (entry_at F m ro b) p n s ≡ true → b * 8192 ≤ s → s + n ≤ b * 8192 + 8192 → s ≤ k → k < s + n → A k ≡ p
    unfolding all_are
    all_are_lem b p n s k h lo hi l u =
        sym (after_in_lem b k (pn2_of F ok b k (omega arith) (omega arith)))
        ∙ eqb-true (after_in F m q (entry_at F m ro b) k) p (every_in (λ j. eqb (after_in F m q (entry_at F m ro b) j) p) n s h k l u)

    gib_one : (g p : ℕ) → gib_is_one F m q ro g p ≡ true → (b n : ℕ) → g * 32 ≤ b → b < g * 32 + 32 → pn2 n ≡ b → A n ≡ p
    unfolding gib_is_one
    gib_one g p h b n l u bb =
        all_are_lem b p 8192 (b * 8192) n
        (every_in (λ c. all_are F m q (entry_at F m ro c) p 8192 (c * 8192)) 32 (g * 32) h b l u)
        (omega arith) (omega arith)
        (subst (λ (c : ℕ). c * 8192 ≤ n) bb (pn2_low F ok n))
        (subst (λ (c : ℕ). n < c * 8192 + 8192) bb (pn2_high F ok n))

    form_fits : (gibOne : Bool) (p b : ℕ) → p < 4 → (gibOne ≡ true → (n : ℕ) → pn2 n ≡ b → A n ≡ p) → Fits F A b (form_in F m q gibOne p (entry_at F m ro b) b)
    unfolding form_in pieces_are_one pieces_info
    form_fits true p b h one = (h, one refl)
    form_fits false p b h one =
        split (pieces_are_one F m q (entry_at F m ro b) b)
        (λ z. rw z (
          pack_lt 4 start start_low F.layout.pieces 0,
          λ n bb.
              let i : ℕ = piece_of F.layout n in
              let il : i < F.layout.pieces = piece_lt F ok n in
              let lo : piece_start F b i ≤ n = subst (λ (c : ℕ). c * 8192 + i * PP ≤ n) bb (piece_low F ok n) in
              let hi : n < piece_start F b i + PP = subst (λ (c : ℕ). n < c * 8192 + i * PP + PP) bb (piece_high F ok n) in
              all_are_lem b (start i) PP (piece_start F b i) n
              (every_in (λ j. all_are F m q (entry_at F m ro b) (start j) PP (piece_start F b j)) F.layout.pieces 0 z i (omega arith) (omega arith))
              (omega arith) (omega (arith, piece_in i il)) lo hi
              ∙ ap start (sym (zero-add i))
              ∙ sym (digit_pack 4 start start_low F.layout.pieces 0 i il),
        ))
        (λ z. rw z tt)
      where
        start : ℕ → ℕ
        start i = after_in F m q (entry_at F m ro b) (piece_start F b i)

        start_low : (i : ℕ) → start i < 4
        start_low i = after_in_small F ok m q ro b (piece_start F b i) low

    forms_in_length : (gibOne : Bool) (p n b : ℕ) → length (forms_in F m q ro gibOne p n b) ≡ n
    unfolding forms_in
    forms_in_length gibOne p zero b = refl
    forms_in_length gibOne p (suc n) b = ap suc (forms_in_length gibOne p n (suc b))

    pub forms_of_length : (n g : ℕ) → length (forms_of F m q ro n g) ≡ n * 32
    unfolding forms_of
    forms_of_length zero g = omega arith
    forms_of_length (suc n) g =
        length-append (forms_in F m q ro (gib_is_one F m q ro g (gib_first F m q ro g)) (gib_first F m q ro g) 32 (g * 32)) (forms_of F m q ro n (suc g))
        ∙ omega (arith, forms_in_length (gib_is_one F m q ro g (gib_first F m q ro g)) (gib_first F m q ro g) 32 (g * 32), forms_of_length n (suc g))

    -- what holds of the form of each block of a touched GiB holds of the list
    forms_in_all : (Q : ℕ → Form → Type 0) (gibOne : Bool) (p n b : ℕ) → ((c : ℕ) → b ≤ c → c < b + n → Q c (form_in F m q gibOne p (entry_at F m ro c) c))
        → AllAt Q b (forms_in F m q ro gibOne p n b)
    unfolding forms_in
    forms_in_all Q gibOne p zero b h = tt
    forms_in_all Q gibOne p (suc n) b h = (h b (omega arith) (omega arith), forms_in_all Q gibOne p n (suc b) (λ c l u. h c (omega arith) (omega arith)))

    forms_of_all : (Q : ℕ → Form → Type 0) (n g : ℕ)
        → ((h c : ℕ) → g ≤ h → h < g + n → h * 32 ≤ c → c < h * 32 + 32 → Q c (form_in F m q (gib_is_one F m q ro h (gib_first F m q ro h)) (gib_first F m q ro h) (entry_at F m ro c) c))
        → AllAt Q (g * 32) (forms_of F m q ro n g)
    unfolding forms_of
    forms_of_all Q zero g h = tt
    forms_of_all Q (suc n) g h =
        let p : ℕ = gib_first F m q ro g in
        let first : List Form = forms_in F m q ro (gib_is_one F m q ro g p) p 32 (g * 32) in
        let z : suc g * 32 ≡ g * 32 + length first = omega (arith, forms_in_length (gib_is_one F m q ro g p) p 32 (g * 32)) in
        all_append Q (g * 32) first (forms_of F m q ro n (suc g))
        (forms_in_all Q (gib_is_one F m q ro g p) p 32 (g * 32) (λ c l u. h g c (omega arith) (omega arith) l u))
        (subst (λ (x : ℕ). AllAt Q x (forms_of F m q ro n (suc g))) z (forms_of_all Q n (suc g) (λ k c lo hi l u. h k c (omega arith) (omega arith) l u)))

    pub forms_all : (Q : ℕ → Form → Type 0)
        → ((g c : ℕ) → first_gib q ≤ g → g < first_gib q + gibs q → g * 32 ≤ c → c < g * 32 + 32
        → Q c (form_in F m q (gib_is_one F m q ro g (gib_first F m q ro g)) (gib_first F m q ro g) (entry_at F m ro c) c))
        → AllAt Q (first_gib q * 32) (forms F m q ro)
    unfolding forms
    forms_all Q h = forms_of_all Q (gibs q) (first_gib q) h

    pub forms_fit : FitsAll F A (first_gib q * 32) (forms F m q ro)
    unfolding gib_first
    forms_fit =
        forms_all (Fits F A)
        (λ g c lo hi l u. form_fits (gib_is_one F m q ro g (A (g * 262144))) (A (g * 262144)) c (after_small F ok m q ro low (g * 262144))
        (λ one n bb. gib_one g (A (g * 262144)) one c n l u bb))

    pub forms_length : length (forms F m q ro) ≡ gibs q * 32
    unfolding forms
    forms_length = forms_of_length (gibs q) (first_gib q)

  -- ---- the finished form depends on the permissions after the edit alone

  module _ (m m' : List ℕ) (same : (n : ℕ) → n < space F → after F m' q ro n ≡ after F m q ro n) where
    in_space : (b k : ℕ) → b < blocks F → k < b * 8192 + 8192 → k < space F
    in_space b k u h = subst (λ (x : ℕ). k < x) (sym (space_blocks F ok)) (omega (arith, mul-le-mul_right 8192 u))

    same_in : (b k : ℕ) → b < blocks F → b * 8192 ≤ k → k < b * 8192 + 8192 → after_in F m' q (entry_at F m' ro b) k ≡ after_in F m q (entry_at F m ro b) k
    same_in b k u lo hi =
        let bb : pn2 k ≡ b = pn2_of F ok b k lo hi in
        after_in_lem m' b k bb ∙ same k (in_space b k u hi) ∙ sym (after_in_lem m b k bb)

    same_all : (b p p' n s : ℕ) → b < blocks F → p' ≡ p → b * 8192 ≤ s → s + n ≤ b * 8192 + 8192
        → all_are F m' q (entry_at F m' ro b) p' n s ≡ all_are F m q (entry_at F m ro b) p n s
    unfolding all_are
    same_all b p p' n s u e lo hi =
        every_cong (λ k. eqb (after_in F m' q (entry_at F m' ro b) k) p') (λ k. eqb (after_in F m q (entry_at F m ro b) k) p) n s
        (λ k l h. ap₂ (λ (x y : ℕ). eqb x y) (same_in b k u (omega arith) (omega arith)) e)

    same_start : (b i : ℕ) → b < blocks F → i < F.layout.pieces → after_in F m' q (entry_at F m' ro b) (piece_start F b i) ≡ after_in F m q (entry_at F m ro b) (piece_start F b i)
    same_start b i u h = same_in b (piece_start F b i) u (omega arith) (omega (arith, piece_in i h, piece_pos F ok))

    pub same_form : (gibOne : Bool) (p b : ℕ) → b < blocks F → form_in F m' q gibOne p (entry_at F m' ro b) b ≡ form_in F m q gibOne p (entry_at F m ro b) b
    unfolding form_in pieces_are_one pieces_info
    same_form gibOne p b u =
        ap₂ (λ (x : Bool) (y : ℕ). if gibOne then want_flat p else if x then want_pieces y else want_table)
        (every_cong
        (λ i. all_are F m' q (entry_at F m' ro b) (after_in F m' q (entry_at F m' ro b) (piece_start F b i)) PP (piece_start F b i))
        (λ i. all_are F m q (entry_at F m ro b) (after_in F m q (entry_at F m ro b) (piece_start F b i)) PP (piece_start F b i))
        F.layout.pieces 0
        (λ i l h. same_all b _ _ PP (piece_start F b i) u (same_start b i u (omega arith)) (omega arith) (omega (arith, piece_in i (omega arith)))))
        (pack_cong 4 (λ i. after_in F m' q (entry_at F m' ro b) (piece_start F b i)) (λ i. after_in F m q (entry_at F m ro b) (piece_start F b i)) F.layout.pieces 0
        (λ i l h. same_start b i u (omega arith)))

    same_forms_in : (gibOne : Bool) (p n b : ℕ) → b + n ≤ blocks F → forms_in F m' q ro gibOne p n b ≡ forms_in F m q ro gibOne p n b
    unfolding forms_in
    same_forms_in gibOne p zero b h = refl
    same_forms_in gibOne p (suc n) b h = ap₂ (λ (x : Form) (y : List Form). x ∷ y) (same_form gibOne p b (omega arith)) (same_forms_in gibOne p n (suc b) (omega arith))

    pub same_gib : (g p : ℕ) → g * 32 + 32 ≤ blocks F → gib_is_one F m' q ro g p ≡ gib_is_one F m q ro g p
    unfolding gib_is_one
    same_gib g p h =
        every_cong (λ b. all_are F m' q (entry_at F m' ro b) p 8192 (b * 8192)) (λ b. all_are F m q (entry_at F m ro b) p 8192 (b * 8192)) 32 (g * 32)
        (λ b l u. same_all b p p 8192 (b * 8192) (omega arith) refl (omega arith) (omega arith))

    pub same_first : (g : ℕ) → g * 32 + 32 ≤ blocks F → gib_first F m' q ro g ≡ gib_first F m q ro g
    unfolding gib_first
    same_first g h = same (g * 262144) (in_space (g * 32) (g * 262144) (omega arith) (omega arith))

    same_forms_of : (n g : ℕ) → g * 32 + n * 32 ≤ blocks F → forms_of F m' q ro n g ≡ forms_of F m q ro n g
    unfolding forms_of
    same_forms_of zero g h = refl
    same_forms_of (suc n) g h =
        let f = same_first g (omega arith) in
        ap₂ (λ (x y : List Form). x ++ y)
        (ap (λ (p : ℕ). forms_in F m' q ro (gib_is_one F m' q ro g p) p 32 (g * 32)) f
        ∙ ap (λ (x : Bool). forms_in F m' q ro x (gib_first F m q ro g) 32 (g * 32)) (same_gib g (gib_first F m q ro g) (omega arith))
        ∙ same_forms_in (gib_is_one F m q ro g (gib_first F m q ro g)) (gib_first F m q ro g) 32 (g * 32) (omega arith))
        (same_forms_of n (suc g) (omega arith))

    pub forms_same : first_gib q * 32 + gibs q * 32 ≤ blocks F → forms F m' q ro ≡ forms F m q ro
    unfolding forms
    forms_same h = same_forms_of (gibs q) (first_gib q) h
