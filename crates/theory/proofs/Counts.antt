-- How many stores an edit makes at most.
use Rattle.std.specs.Prelude.{if◌then◌else◌}
use mathlib.Core.Path.{◌≡◌, refl, sym, ap, ap₂, ◌∙◌, subst}
use mathlib.Core.Bool.{Bool, true, false, false≢true}
use mathlib.Core.Logic.{◌≢◌, ⊎_elim}
use mathlib.Core.List.{List, [], ◌∷◌, head_d, tail}
use Prim.Native.Nat.{ℕ, suc, ◌+◌, ◌*◌, ◌-◌, ◌^◌, ◌≤◌, ◌<◌, zero-le}
use native.Mathlib.Nat.{mul-one, mul-zero, mul-le-mul_left, mul-le-mul_right}
use native.Mathlib.Omega.{arith}
use lib.Dec.{eqb}
use lib.Pow.{pow_mono}
use lib.ListN.{length, length-append, get_or}
use borrow.Author.Tests.{eqb-true, eqb-false, eq-eqb}
use Rattle.model.specs.Numbers.{digit}
use Rattle.model.specs.Layout.{piece_pages}
use Rattle.model.specs.Entry.{Entry, encode, field_of, flat, invalid, perm, pieces, table}
use Rattle.model.specs.Frame.{Frame, blocks, index_of, word_at}
use Rattle.model.specs.Walk.{entry_at, found, l2_word, pn0, pn1, pn2}
use Rattle.model.specs.Forms.{Form, Request, after_in, all_are, first_gib, form_in, forms, gib_first, gib_is_one, in_range, l1_word, perm_of, piece_start, pieces_are_one, pieces_info, want_flat, want_pieces, want_table}
use Rattle.model.specs.Stores.{Store, block_stores, if_changed, if_changed_l2, link_table, needs_page, new_table, same_table, store_at, store_l2, stores_from}
use Rattle.laws.proofs.Choices.{split}
use Rattle.laws.proofs.Digits.{pack_cong, pack_digit}
use Rattle.laws.proofs.Every.{every_all}
use Rattle.laws.proofs.Sums.{joined_measure, length_measure, sum, sum_add, sum_cong, sum_const, sum_le}
use Rattle.laws.proofs.Times.{times, times_append, times_one, times_other}
use Rattle.theory.proofs.Used.{links, passes}
use Rattle.theory.proofs.Frames.{Ok, entry_in_block, page_parts_lem, piece_of_lem, piece_pos, pn1_of, pn2_of}
use Rattle.theory.proofs.Tables.{Sound, link_in}
use Rattle.theory.proofs.Walks.{found_table}
use Rattle.laws.proofs.FieldLaws.{field_clean}
use Rattle.theory.proofs.Plans.{AllAt}
use Rattle.theory.proofs.Forms.{forms_all, forms_length}
use Rattle.theory.proofs.Free.{at_most_one}
use Rattle.theory.proofs.Ranges.{GoodRange, touched_inside}
use Rattle.theory.proofs.Ends.{high_end, low_end, one_side}

-- ---- the stores of one block

changed_length : (F : Frame) (m : List ℕ) (p i w : ℕ) → length (if_changed F m p i w) ≤ 1
unfolding if_changed
changed_length F m p i w = split (eqb (word_at F m p i) w) (λ z. rw z (omega arith)) (λ z. rw z (omega arith))

changed_l2 : (F : Frame) (m : List ℕ) (r b w : ℕ) → length (if_changed_l2 F m r b w) ≤ 1
unfolding if_changed_l2
changed_l2 F m r b w = split (eqb (l2_word F m r b) w) (λ z. rw z (omega arith)) (λ z. rw z (omega arith))

module _ (F : Frame) (ok : Ok F) (q : Request) (m : List ℕ) (ro : ℕ) where
  abbrev N : ℕ
  N = F.layout.words

  ones : (n : ℕ) → sum (λ k. 1) n 0 ≡ n
  ones n = sum_const 1 n 0 ∙ mul-one n

  new_length : (e : Entry) (b p : ℕ) → length (new_table F m q e b p) ≡ N
  unfolding new_table
  new_length e b p = joined_measure (λ l. length l) length_measure (λ i. store_at F p i (l1_word F m q e b i) ∷ []) N 0 ∙ ones N

  same_length : (e : Entry) (b t : ℕ) → length (same_table F m q e b t) ≤ N
  unfolding same_table
  same_length e b t =
      omega (
        arith,
        joined_measure (λ l. length l) length_measure (λ i. if_changed F m t i (l1_word F m q e b i)) N 0,
        sum_le (λ i. length (if_changed F m t i (l1_word F m q e b i))) (λ i. 1) N 0 (λ i l u. changed_length F m t i (l1_word F m q e b i)),
        ones N,
      )

  pub link_length : (e : Entry) (b p : ℕ) → length (link_table F m q ro e b p) ≡ 1 + N
  unfolding link_table
  link_length e b p = omega (arith, length-append (new_table F m q e b p) (store_l2 F ro b (encode F.layout (table p)) ∷ []), new_length e b p)

  block_any : (f : Form) (e : Entry) (b p : ℕ) → length (block_stores F m q ro f e b p) ≤ 1 + N
  unfolding block_stores
  block_any (want_flat x) e b p = omega (arith, changed_l2 F m ro b (encode F.layout (flat x)))
  block_any (want_pieces x) e b p = omega (arith, changed_l2 F m ro b (encode F.layout (pieces x)))
  block_any want_table (table t) b p = omega (arith, same_length (table t) b t)
  block_any want_table (flat x) b p = omega (arith, link_length (flat x) b p)
  block_any want_table (pieces x) b p = omega (arith, link_length (pieces x) b p)
  block_any want_table invalid b p = omega (arith, link_length invalid b p)

  -- a form that is no L1 page asks for one store at most
  block_flat : (gibOne : Bool) (x : ℕ) (e e' : Entry) (b p : ℕ) → pieces_are_one F m q e b ≡ true → length (block_stores F m q ro (form_in F m q gibOne x e b) e' b p) ≤ 1
  unfolding block_stores form_in
  block_flat true x e e' b p h = changed_l2 F m ro b (encode F.layout (flat x))
  block_flat false x e e' b p h = rw h (changed_l2 F m ro b (encode F.layout (pieces (pieces_info F m q e b))))

  -- pieces that are each of one permission
  uniform : (e : Entry) (b : ℕ)
      → ((i k : ℕ) → i < F.layout.pieces → piece_start F b i ≤ k → k < piece_start F b i + piece_pages F.layout → after_in F m q e k ≡ after_in F m q e (piece_start F b i))
      → pieces_are_one F m q e b ≡ true
  unfolding pieces_are_one all_are
  uniform e b h =
      every_all _ F.layout.pieces 0
      (λ i l. every_all _ (piece_pages F.layout) (piece_start F b (0 + i))
      (λ k u. eq-eqb _ _ (h (0 + i) (piece_start F b (0 + i) + k) (omega arith) (omega arith) (omega arith))))

  piece_in : (i : ℕ) → i < F.layout.pieces → i * piece_pages F.layout + piece_pages F.layout ≤ 8192
  piece_in i h =
      subst (λ (k : ℕ). i * piece_pages F.layout + piece_pages F.layout ≤ k) ok.lawful.pieces_pages (omega (arith, mul-le-mul_right (piece_pages F.layout) h))

  module _ (rs : List ℕ) (s : Sound F rs m) (root : 0 < times ro rs) (bound : (i : ℕ) → get_or m i 0 < 16 ^ F.layout.fields) (b : ℕ) (ub : b < blocks F) where
    abbrev e : Entry
    e = entry_at F m ro b

    -- the block lies in the range
    covered : ((n : ℕ) → pn2 n ≡ b → in_range q n ≡ true) → pieces_are_one F m q e b ≡ true
    unfolding after_in
    covered h =
        uniform e b
        (λ i k l lo hi.
        rw (
          h k (pn2_of F ok b k (omega arith) (omega (arith, piece_in i l))),
          h (piece_start F b i) (pn2_of F ok b (piece_start F b i) (omega arith) (omega (arith, piece_in i l, piece_pos F ok))),
        )
        refl)

    -- the range misses the block
    module _ (out : (n : ℕ) → pn2 n ≡ b → in_range q n ≡ false) where
      word_bound : (t i : ℕ) → word_at F m t i < 16 ^ F.layout.fields
      unfolding word_at
      word_bound t i = bound (index_of F t i)

      kept : (x : Entry) (k : ℕ) → pn2 k ≡ b → after_in F m q x k ≡ perm_of (found F m x k)
      unfolding after_in
      kept x k h = rw (out k h)

      in_block : (i k : ℕ) → i < F.layout.pieces → piece_start F b i ≤ k → k < piece_start F b i + piece_pages F.layout → pn2 k ≡ b
      in_block i k l lo hi = pn2_of F ok b k (omega arith) (omega (arith, piece_in i l))

      start_in : (i : ℕ) → i < F.layout.pieces → pn2 (piece_start F b i) ≡ b
      start_in i l = in_block i (piece_start F b i) l (omega arith) (omega (arith, piece_pos F ok))

      flat_uniform : (x : ℕ) → pieces_are_one F m q (flat x) b ≡ true
      unfolding found
      flat_uniform x =
          uniform (flat x) b (λ i k l lo hi. kept (flat x) k (in_block i k l lo hi) ∙ sym (kept (flat x) (piece_start F b i) (start_in i l)))

      pieces_uniform : (x : ℕ) → pieces_are_one F m q (pieces x) b ≡ true
      unfolding found
      pieces_uniform x =
          uniform (pieces x) b
          (λ i k l lo hi.
          kept (pieces x) k (in_block i k l lo hi)
          ∙ ap (λ (j : ℕ). perm_of (perm (digit 4 x j))) (piece_of_lem F ok b i k l lo hi ∙ sym (piece_of_lem F ok b i (piece_start F b i) l (omega arith) (omega (arith, piece_pos F ok))))
          ∙ sym (kept (pieces x) (piece_start F b i) (start_in i l)))

      -- an L1 entry stays what it is
      module _ (t : ℕ) (z : e ≡ table t) where
        linked : 0 < times t (links F m rs)
        linked = link_in F rs m ro b t root ub z

        word_kept : (i : ℕ) → i < N → l1_word F m q (table t) b i ≡ word_at F m t i
        unfolding l1_word perm_of
        word_kept i h =
            let s0 : ℕ = b * 8192 + i * F.layout.fields in
            pack_cong 16 (after_in F m q (table t)) (λ k. digit 16 (word_at F m t i) (k - s0)) F.layout.fields s0
            (λ k lo hi.
            let bb : pn2 k ≡ b = pn2_of F ok b k (omega arith) (omega (arith, entry_in_block F ok i h)) in
            let ii : pn1 F.layout k ≡ i = pn1_of F ok b i k h lo hi in
            let zz : pn0 F.layout k ≡ k - s0
            = omega (arith, page_parts_lem F ok k, ap (λ (x : ℕ). x * 8192) bb, ap (λ (x : ℕ). x * F.layout.fields) ii) in
            kept (table t) k bb
            ∙ ap perm_of (found_table F m t k (s.links_lent t linked))
            ∙ ap₂ (λ (x y : ℕ). perm_of (field_of F.layout (word_at F m t x) y)) ii zz
            ∙ ap perm_of (field_clean F.layout (word_at F m t i) (k - s0) (omega arith) (s.links_clean t i linked h)))
            ∙ pack_digit 16 (omega arith) F.layout.fields (word_at F m t i) s0 (word_bound t i)

        none_changed : length (same_table F m q (table t) b t) ≡ 0
        unfolding same_table if_changed
        none_changed =
            joined_measure (λ l. length l) length_measure (λ i. if_changed F m t i (l1_word F m q (table t) b i)) N 0
            ∙ sum_cong (λ i. length (if_changed F m t i (l1_word F m q (table t) b i))) (λ i. 0) N 0
            (λ i l u. rw (eq-eqb (word_at F m t i) (l1_word F m q (table t) b i) (sym (word_kept i (omega arith)))) refl)
            ∙ sum_const 0 N 0
            ∙ mul-zero N

      table_missed : (gibOne : Bool) (x p t : ℕ) → e ≡ table t → pieces_are_one F m q (table t) b ≡ false → length (block_stores F m q ro (form_in F m q gibOne x (table t) b) (table t) b p) ≤ 1
      unfolding block_stores form_in
      table_missed true x p t z c = changed_l2 F m ro b (encode F.layout (flat x))
      table_missed false x p t z c = rw c (omega (arith, none_changed t z))

      missed : (gibOne : Bool) (x p : ℕ) (y : Entry) → e ≡ y → passes y ≡ true → length (block_stores F m q ro (form_in F m q gibOne x y b) y b p) ≤ 1
      unfolding passes
      missed gibOne x p (flat v) z h = block_flat gibOne x (flat v) (flat v) b p (flat_uniform v)
      missed gibOne x p (pieces v) z h = block_flat gibOne x (pieces v) (pieces v) b p (pieces_uniform v)
      missed gibOne x p invalid z h = absurd (false≢true h)
      missed gibOne x p (table t) z h =
          split (pieces_are_one F m q (table t) b)
          (λ c. block_flat gibOne x (table t) (table t) b p c)
          (λ c. table_missed gibOne x p t z c)

    -- one store, and a page's more where an end of the range lies in the block
    tight : (w : GoodRange F q) (gibOne : Bool) (x p : ℕ)
        → length (block_stores F m q ro (form_in F m q gibOne x e b) e b p) ≤ 1 + N * times b (low_end F q w ∷ high_end F q w ∷ [])
    tight w gibOne x p =
        let ends : times b (low_end F q w ∷ high_end F q w ∷ []) ≡ times b (low_end F q w ∷ []) + times b (high_end F q w ∷ [])
        = times_append b (low_end F q w ∷ []) (high_end F q w ∷ []) in
        split (eqb b (low_end F q w))
        (λ z. let one : times b (low_end F q w ∷ []) ≡ 1 = ap (λ (y : ℕ). times b (y ∷ [])) (sym (eqb-true b (low_end F q w) z)) ∙ times_one b in
        omega (arith, block_any (form_in F m q gibOne x e b) e b p, mul-le-mul_left {m = 1} {n = times b (low_end F q w ∷ high_end F q w ∷ [])} N (omega arith)))
        (λ z. split (eqb b (high_end F q w))
        (λ y. let one : times b (high_end F q w ∷ []) ≡ 1 = ap (λ (w : ℕ). times b (w ∷ [])) (sym (eqb-true b (high_end F q w) y)) ∙ times_one b in
        omega (arith, block_any (form_in F m q gibOne x e b) e b p, mul-le-mul_left {m = 1} {n = times b (low_end F q w ∷ high_end F q w ∷ [])} N (omega arith)))
        (λ y.
        let short : length (block_stores F m q ro (form_in F m q gibOne x e b) e b p) ≤ 1
        = ⊎_elim
        (λ c. block_flat gibOne x e e b p (covered c))
        (λ c. missed c gibOne x p e refl (s.pass ro b root ub))
        (one_side F q w b (eqb-false b (low_end F q w) z) (eqb-false b (high_end F q w) y)) in
        omega arith))

-- ---- the stores of all blocks

module _ (F : Frame) (q : Request) (m : List ℕ) (ro : ℕ) (ends : List ℕ) where
  -- a block's stores are few unless it is among the ends
  abbrev pub Few : ℕ → Form → Type 0
  Few b f = (p : ℕ) → length (block_stores F m q ro f (entry_at F m ro b) b p) ≤ 1 + F.layout.words * times b ends

  pub stores_length : (fs : List Form) (b : ℕ) (fr : List ℕ) → AllAt Few b fs
      → length (stores_from F m q ro b fs fr) ≤ length fs + F.layout.words * sum (λ c. times c ends) (length fs) b
  unfolding stores_from sum
  stores_length [] b fr h = zero-le
  stores_length (f ∷ fs) b fr h =
      let here : List Store = block_stores F m q ro f (entry_at F m ro b) b (head_d fr 0) in
      let more : List ℕ = if needs_page f (entry_at F m ro b) then tail fr else fr in
      omega (
        arith,
        length-append here (stores_from F m q ro (suc b) fs more),
        h.0 (head_d fr 0),
        stores_length fs (suc b) more h.1,
        native.Mathlib.Nat.mul-add F.layout.words (times b ends) (sum (λ c. times c ends) (length fs) (suc b)),
      )

swap_one : (k y : ℕ) → times k (y ∷ []) ≡ times y (k ∷ [])
swap_one k y =
    split (eqb k y)
    (λ z. let same : k ≡ y = eqb-true k y z in
    subst (λ (x : ℕ). times k (x ∷ []) ≡ times x (k ∷ [])) same refl)
    (λ z. let ne : k ≢ y = eqb-false k y z in times_other k y ne ∙ sym (times_other y k (λ e. ne (sym e))))

pub two_ends : (x y n s : ℕ) → sum (λ c. times c (x ∷ y ∷ [])) n s ≤ 2
two_ends x y n s =
    omega (
      arith,
      sum_cong (λ c. times c (x ∷ y ∷ [])) (λ c. times x (c ∷ []) + times y (c ∷ [])) n s
          (λ c lo hi. times_append c (x ∷ []) (y ∷ []) ∙ ap₂ (λ (a b : ℕ). a + b) (swap_one c x) (swap_one c y)),
      sum_add (λ c. times x (c ∷ [])) (λ c. times y (c ∷ [])) n s,
      at_most_one x n s,
      at_most_one y n s,
    )

many_blocks : (F : Frame) → Ok F → 32 ≤ blocks F
unfolding blocks
many_blocks F ok = pow_mono {i = 5} (omega (arith, ok.paw_low))

module _ (F : Frame) (ok : Ok F) (q : Request) (low : q.permission < 4) (w : GoodRange F q) (m : List ℕ) (ro : ℕ) (rs : List ℕ) (s : Sound F rs m)
    (root : 0 < times ro rs) (bound : (i : ℕ) → get_or m i 0 < 16 ^ F.layout.fields) where
  abbrev pub ends_of : List ℕ
  ends_of = low_end F q w ∷ high_end F q w ∷ []

  pub forms_few : AllAt (Few F q m ro ends_of) (first_gib q * 32) (forms F m q ro)
  forms_few =
      forms_all F ok q low ro m (Few F q m ro ends_of)
      (λ g c lo hi l u p. tight F ok q m ro rs s root bound c (omega (arith, touched_inside F q w ok)) w (gib_is_one F m q ro g (gib_first F m q ro g)) (gib_first F m q ro g) p)

  -- "With B blocks in the address space the count is at most B - 2 + 1,026"
  pub count : (fr : List ℕ) → length (stores_from F m q ro (first_gib q * 32) (forms F m q ro) fr) ≤ blocks F - 2 + 2 * suc F.layout.words
  count fr =
      omega (
        arith,
        stores_length F q m ro ends_of (forms F m q ro) (first_gib q * 32) fr forms_few,
        mul-le-mul_left F.layout.words (two_ends (low_end F q w) (high_end F q w) (length (forms F m q ro)) (first_gib q * 32)),
        forms_length F ok q low ro m,
        touched_inside F q w ok,
        many_blocks F ok,
      )
