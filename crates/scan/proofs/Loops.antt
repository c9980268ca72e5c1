-- One turn of a loop, over a list and over words part by part: what is left, from the marks so far, decides the whole.
use mathlib.Core.Path.{◌≡◌, refl, sym, ap, ap₂, ◌∙◌, fun_ext}
use mathlib.Core.Bool.{Bool, true, false}
use mathlib.Core.List.{List, ◌∷◌}
use Prim.Native.Nat.{ℕ, zero, suc, ◌+◌, ◌-◌, ◌≤◌, ◌<◌}
use native.Mathlib.Nat.{zero-add, add-zero}
use native.Mathlib.Numerals.{add-one}
use native.Mathlib.Omega.{arith}
use lib.ListN.{length, get_or, take, drop, drop_of_length-le}
use lib.Seq.{drop-cons}
use Rattle.std.proofs.lemmas.List.{get_or-drop, get_or-take, length-drop, length-take-le}
use Rattle.model.specs.Numbers.{every}
use Rattle.model.specs.Entry.{decode}
use Rattle.model.specs.Frame.{Frame, lent, index_of}
use Rattle.laws.proofs.Every.{every_cong}
use Rattle.laws.proofs.FrameNumbers.{entry_at_lem}
use Rattle.marks.specs.Marks.{Marks}
use Rattle.scan.specs.Scan.{Scan, unsound, marked, then_scan, scan_all, scan_run, claim_of, entry_step, word_step, block_step}

module _ (step : Marks → ℕ → Scan) (k : Marks) where
  -- ---- a list

  module _ (l : List ℕ) (i : ℕ) (h : i < length l) where
    all_turn : scan_all step k (drop i l) ≡ then_scan (step k (get_or l i 0)) (λ o. scan_all step o (drop (i + 1) l))
    unfolding scan_all
    all_turn = ap (scan_all step k) (drop-cons l i 0 h ∙ ap (λ (n : ℕ). get_or l i 0 ∷ drop n l) (sym (add-one i)))

    -- the step went well: the rest goes on from its marks
    pub all_on : {j : Marks} → marked j ≡ step k (get_or l i 0) → scan_all step k (drop i l) ≡ scan_all step j (drop (i + 1) l)
    all_on said = all_turn ∙ ap (λ (s : Scan). then_scan s (λ o. scan_all step o (drop (i + 1) l))) (sym said)

    pub all_stopped : unsound ≡ step k (get_or l i 0) → scan_all step k (drop i l) ≡ unsound
    all_stopped said = all_turn ∙ ap (λ (s : Scan). then_scan s (λ o. scan_all step o (drop (i + 1) l))) (sym said)

  pub all_ended : (l : List ℕ) (i : ℕ) → length l ≤ i → scan_all step k (drop i l) ≡ marked k
  unfolding scan_all
  all_ended l i h = ap (scan_all step k) (drop_of_length-le l h)

  -- ---- a run of n numbers, at number i

  module _ (n i : ℕ) where
    module _ (h : i < n) where
      run_turn : scan_run step k (n - i) i ≡ then_scan (step k i) (λ o. scan_run step o (n - (i + 1)) (i + 1))
      unfolding scan_run
      run_turn =
          let u : n - i ≡ suc (n - (i + 1)) = omega arith in
          ap (λ (c : ℕ). scan_run step k c i) u ∙ ap (λ (j : ℕ). then_scan (step k i) (λ o. scan_run step o (n - (i + 1)) j)) (sym (add-one i))

      pub run_on : {j : Marks} → marked j ≡ step k i → scan_run step k (n - i) i ≡ scan_run step j (n - (i + 1)) (i + 1)
      run_on said = run_turn ∙ ap (λ (s : Scan). then_scan s (λ o. scan_run step o (n - (i + 1)) (i + 1))) (sym said)

      pub run_stopped : unsound ≡ step k i → scan_run step k (n - i) i ≡ unsound
      run_stopped said = run_turn ∙ ap (λ (s : Scan). then_scan s (λ o. scan_run step o (n - (i + 1)) (i + 1))) (sym said)

    pub run_ended : n ≤ i → scan_run step k (n - i) i ≡ marked k
    unfolding scan_run
    run_ended h = let u : n - i ≡ 0 = omega arith in ap (λ (c : ℕ). scan_run step k c i) u

-- ---- the words from word a up to word e, which is not one of them, as a slice of the board's

module _ (m : List ℕ) (a e : ℕ) (h : (a ≤ e) × (e ≤ length m)) where
  part_length : length (take (e - a) (drop a m)) ≡ e - a
  part_length = length-take-le (e - a) (drop a m) (omega (arith, length-drop a m))

  pub part_word : (i : ℕ) → i < length (take (e - a) (drop a m)) → (i < e - a) × (get_or (take (e - a) (drop a m)) i 0 ≡ get_or m (a + i) 0)
  part_word i l =
      let within : i < e - a = omega (arith, part_length) in
      (within, get_or-take (e - a) (drop a m) i 0 within ∙ get_or-drop a m i 0)

  -- each word of the slice passes exactly when each of those words does
  pub part_every : (test : ℕ → Bool)
      → every (λ i. test (get_or (take (e - a) (drop a m)) i 0)) (length (take (e - a) (drop a m))) 0 ≡ every (λ i. test (get_or m (a + i) 0)) (e - a) 0
  part_every test =
      every_cong (λ i. test (get_or (take (e - a) (drop a m)) i 0)) (λ i. test (get_or m (a + i) 0)) (length (take (e - a) (drop a m))) 0
      (λ i lo hi. ap test (part_word i (omega arith)).1)
      ∙ ap (λ (n : ℕ). every (λ i. test (get_or m (a + i) 0)) n 0) part_length

  pub part_end : (i : ℕ) → length (take (e - a) (drop a m)) ≤ i → e - a ≤ i
  part_end i l = omega (arith, part_length)

pub then_marked : (s : Scan) → then_scan s marked ≡ s
then_marked unsound = refl
then_marked (marked k) = refl

-- a run in two parts
pub run_append : (step : Marks → ℕ → Scan) (a n s : ℕ) (k : Marks) → scan_run step k (a + n) s ≡ then_scan (scan_run step k a s) (λ o. scan_run step o n (s + a))
unfolding scan_run
run_append step zero n s k = ap₂ (scan_run step k) (zero-add n) (sym (add-zero s))
run_append step (suc a) n s k =
    let u : suc a + n ≡ suc (a + n) = omega arith in
    let v : suc s + a ≡ s + suc a = omega arith in
    ap (λ (c : ℕ). scan_run step k c s) u
    ∙ go (step k s) (λ o. run_append step a n (suc s) o ∙ ap (λ (e : ℕ). then_scan (scan_run step o a (suc s)) (λ x. scan_run step x n e)) v)
  where
    go : (t : Scan) → ((o : Marks) → scan_run step o (a + n) (suc s) ≡ then_scan (scan_run step o a (suc s)) (λ x. scan_run step x n (s + suc a)))
        → then_scan t (λ o. scan_run step o (a + n) (suc s)) ≡ then_scan (then_scan t (λ o. scan_run step o a (suc s))) (λ x. scan_run step x n (s + suc a))
    go unsound rest = refl
    go (marked o) rest = rest o

-- a page that was claimed is lent
pub claimed_lent : (F : Frame) (k : Marks) (page : ℕ) {j : Marks} → marked j ≡ claim_of F k page → lent F page ≡ true
unfolding claim_of
claimed_lent F k page {j} said = go (lent F page) refl
  where
    go : (t : Bool) → lent F page ≡ t → t ≡ true
    go true q = refl
    go false q = let bad : marked j ≡ unsound = said ∙ rw q in cc

-- and one that is not lent is not claimed
pub unlent_claim : (F : Frame) (k : Marks) (page : ℕ) → lent F page ≡ false → unsound ≡ claim_of F k page
unfolding claim_of
unlent_claim F k page h = rw h

-- ---- the words of a root, from word r on, are its entries

pub words_are_entries : (F : Frame) (m : List ℕ) (root r n : ℕ) (k : Marks) → lent F root ≡ true → r ≡ index_of F root 0
    → scan_run (word_step F m r) k n 0 ≡ scan_run (block_step F m root) k n 0
words_are_entries F m root r n k h e =
    ap (λ (step : Marks → ℕ → Scan). scan_run step k n 0) (fun_ext (λ j. fun_ext (λ b. ap (entry_step F m j) (entry_at_lem F m root b r h e))))

-- ---- the words from word r on, part by part

module _ (F : Frame) (m : List ℕ) (r : ℕ) where
  -- the words from d on
  shifted : (d n s : ℕ) (k : Marks) → scan_run (word_step F m (r + d)) k n s ≡ scan_run (word_step F m r) k n (d + s)
  unfolding scan_run
  shifted d zero s k = refl
  shifted d (suc n) s k =
      let e : r + d + s ≡ r + (d + s) = omega arith in
      let f : d + suc s ≡ suc (d + s) = omega arith in
      ap (λ (i : ℕ). then_scan (entry_step F m k (decode F.layout (get_or m i 0))) (λ o. scan_run (word_step F m (r + d)) o n (suc s))) e
      ∙ go (word_step F m r k (d + s)) (λ o. shifted d n (suc s) o ∙ ap (scan_run (word_step F m r) o n) f)
    where
      go : (t : Scan) → ((o : Marks) → scan_run (word_step F m (r + d)) o n (suc s) ≡ scan_run (word_step F m r) o n (suc (d + s)))
          → then_scan t (λ o. scan_run (word_step F m (r + d)) o n (suc s)) ≡ then_scan t (λ o. scan_run (word_step F m r) o n (suc (d + s)))
      go unsound rest = refl
      go (marked o) rest = rest o

  -- what is left up to word e, from word a on
  abbrev pub left : ℕ → ℕ → Marks → Scan
  left e a k = scan_run (word_step F m r) k (e - a) (a - r)

  pub left_all : (e : ℕ) (k : Marks) → scan_run (word_step F m r) k (e - r) 0 ≡ left e r k
  left_all e k = let z : 0 ≡ r - r = omega arith in ap (scan_run (word_step F m r) k (e - r)) z

  pub left_none : (e a : ℕ) (k : Marks) → e ≤ a → left e a k ≡ marked k
  unfolding scan_run
  left_none e a k h = let z : e - a ≡ 0 = omega arith in ap (λ (c : ℕ). scan_run (word_step F m r) k c (a - r)) z

  -- the next p of them
  module _ (e a p : ℕ) (lo : r ≤ a) (hi : a + p ≤ e) (k : Marks) where
    turn : left e a k ≡ then_scan (scan_run (word_step F m a) k p 0) (λ o. left e (a + p) o)
    turn =
        let u : e - a ≡ p + (e - (a + p)) = omega arith in
        let v : a - r + p ≡ a + p - r = omega arith in
        let w : r + (a - r) ≡ a = omega arith in
        ap (λ (c : ℕ). scan_run (word_step F m r) k c (a - r)) u
        ∙ run_append (word_step F m r) p (e - (a + p)) (a - r) k
        ∙ ap₂ (λ (t : Scan) (c : ℕ). then_scan t (λ o. scan_run (word_step F m r) o (e - (a + p)) c))
        (ap (scan_run (word_step F m r) k p) (sym (add-zero (a - r))) ∙ sym (shifted (a - r) p 0 k) ∙ ap (λ (x : ℕ). scan_run (word_step F m x) k p 0) w) v

    pub left_on : {j : Marks} → marked j ≡ scan_run (word_step F m a) k p 0 → left e a k ≡ left e (a + p) j
    left_on said = turn ∙ ap (λ (t : Scan). then_scan t (λ o. left e (a + p) o)) (sym said)

    pub left_stopped : unsound ≡ scan_run (word_step F m a) k p 0 → left e a k ≡ unsound
    left_stopped said = turn ∙ ap (λ (t : Scan). then_scan t (λ o. left e (a + p) o)) (sym said)

  -- one entry by itself
  pub one_entry : (a : ℕ) (k : Marks) → scan_run (word_step F m a) k 1 0 ≡ entry_step F m k (decode F.layout (get_or m a 0))
  unfolding scan_run
  one_entry a k = ap (λ (i : ℕ). then_scan (entry_step F m k (decode F.layout (get_or m i 0))) marked) (add-zero a) ∙ then_marked _
