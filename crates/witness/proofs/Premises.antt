-- The bench meets the premises. That nothing is open from some page on follows from what is computed of the roots and of the L1 pages; what is
-- open below is computed page by page. What the premises of a table ask to be computed is one record (`Computed`).
use mathlib.Core.Path.{◌≡◌, refl, sym, ap, ◌∙◌, subst}
use mathlib.Core.Bool.{Bool, true, false, not, ◌&&◌, ◌||◌, true≢false, false≢true}
use mathlib.Core.Logic.{◌≢◌}
use mathlib.Core.List.Memᴰ
use mathlib.Core.List.{List, [], ◌∷◌}
use Prim.Native.Nat.{ℕ, zero, suc, ◌*◌, ◌-◌, ◌/◌, ◌%◌, ◌^◌, ◌≤◌, ◌<◌}
use native.Mathlib.Nat.{zero-div}
use native.Mathlib.Omega.{arith}
use lib.Dec.{eqb, ltb, lit<}
use lib.ListN.{length, get_or}
use borrow.Author.Tests.{eqb-true, ltb-true, ltb-false, ne_eqb}
use Rattle.model.specs.Numbers.{every, each}
use Rattle.model.specs.Layout.{rv64}
use Rattle.model.specs.Register.{ppn_of}
use Rattle.model.specs.Entry.{Entry, flat, pieces, table, invalid, perm, field_of}
use Rattle.model.specs.Frame.{page_of, space, lent, frame_ok, word_at}
use Rattle.model.specs.Walk.{walk, entry_at, found, pn0, pn1, pn2}
use Rattle.model.specs.Sound.{open_registers}
use Rattle.model.specs.Apart.{grants, grants_any, Strength, strict, sharing, opens, writes, reaches, table_page}
use Rattle.model.specs.Demands.{Domain}
use Rattle.laws.proofs.Choices.{split, and_true, and_false, or_left, not-true-false}
use Rattle.laws.proofs.Every.{every_in}
use Rattle.laws.proofs.Lists.{each_step}
use Rattle.laws.proofs.Peeks.{peek, word_is_peek}
use Rattle.theory.proofs.Entries.{rv64_lawful}
use Rattle.theory.proofs.Memory.{lent_low, lent_high}
use Rattle.theory.proofs.TablePages.{table_lent}
use Rattle.theory.proofs.Walks.{walk_in, found_table}
use Rattle.cases.proofs.Sounds.{quick_sound, sound_quick}
use Rattle.cases.proofs.Compute.{compute}
use Rattle.isolation.specs.Board.{holds, load_byte, table_of}
use Rattle.isolation.specs.Neighbours.{Apart, Bench, Start}
use Rattle.isolation.proofs.Kept.{none_open}
use Rattle.isolation.proofs.Steps.{never_true, reaches_open}
use Rattle.isolation.proofs.Test.{open_inside}
use Rattle.isolation.proofs.Walking.{each_mem}
use Rattle.witness.specs.Witness.{F, r0, r1, slots, fields0, fields1, words, others, board}
use Rattle.witness.proofs.Table.{table_for, lent_held, rest_held, rest_byte, board_length}

-- ---- what is computed

size : (s : Strength) → length (words s) ≡ 2048
unfolding words
size s = refl

words_low : (s : Strength) → each (λ w. ltb w (16 ^ 16)) (words s) ≡ true
unfolding compute words fields0 fields1
words_low strict = refl
words_low sharing = refl

-- an L2 entry that gives nothing from page 16 k on: that of block 0, and that of another block
unfoldable pub first_far : ℕ → List ℕ → Entry → Bool
first_far k m (flat p) = false
first_far k m (pieces i) = false
first_far k m (table t) = lent F t && every (λ i. eqb (peek F m t i) 0) (512 - k) k
first_far k m invalid = false

unfoldable pub none : Entry → Bool
none (flat p) = eqb p 0
none (pieces i) = false
none (table t) = false
none invalid = false

unfoldable pub far_root : ℕ → List ℕ → ℕ → Bool
far_root k m r = first_far k m (entry_at F m (ppn_of rv64 r) 0) && every (λ b. none (entry_at F m (ppn_of rv64 r) b)) 31 1

-- below: no page is open to one and reached by another, and no table page is reached
abbrev near_pair : Strength → List ℕ → ℕ → ℕ → ℕ → Bool
near_pair s m n r r' = eqb r r' || not (opens F m r n && reaches F m s r' n)

abbrev near_page : Strength → List ℕ → ℕ → Bool
near_page s m n = each (λ r. each (near_pair s m n r) (open_registers slots)) (open_registers slots)

abbrev near_table : Strength → List ℕ → ℕ → Bool
near_table s m n = not (table_page F m slots n) || each (λ r. not (reaches F m s r n)) (open_registers slots)

pub record Computed (s : Strength) (m : List ℕ) (k : ℕ) : Type 0 where
  pub frame : frame_ok F m ≡ true
  pub sounds : quick_sound F m slots ≡ true
  pub far : each (far_root k m) (open_registers slots) ≡ true
  pub pages : every (near_page s m) (16 * k) 0 ≡ true
  pub table : every (near_table s m) (16 * k) 0 ≡ true

computed : (s : Strength) → Computed s (words s) 1
unfolding compute words slots fields0 fields1 first_far none far_root opens writes reaches grants_any grants table_page
computed strict = record { frame = refl; sounds = refl; far = refl; pages = refl; table = refl }
computed sharing = record { frame = refl; sounds = refl; far = refl; pages = refl; table = refl }

-- the open ones are held
abbrev held_test : Strength → ℕ → ℕ → ℕ → Bool
held_test s v n r = not (opens F (words s) r n) || holds (others v) n

near_held : (s : Strength) (v : ℕ) → every (λ n. each (held_test s v n) (open_registers slots)) 16 0 ≡ true
unfolding compute words slots fields0 fields1 opens grants_any grants holds others
near_held strict v = refl
near_held sharing v = refl

-- ---- nothing is open from page 16 k on

zero_field : (i : ℕ) → field_of rv64 0 i ≡ perm 0
unfolding compute
zero_field i = rw (zero-div (16 ^ i)) refl

pub space_is : space F ≡ 262144
unfolding space
space_is = refl

first_found : (k : ℕ) (m : List ℕ) (e : Entry) (n : ℕ) → 16 * k ≤ n → n < 8192 → first_far k m e ≡ true → found F m e n ≡ perm 0
unfolding first_far pn1
first_found k m (flat p) n l u h = absurd (false≢true h)
first_found k m (pieces i) n l u h = absurd (false≢true h)
first_found k m (table t) n l u h =
    let both = and_true (lent F t) (every (λ i. eqb (peek F m t i) 0) (512 - k) k) h in
    found_table F m t n both.0
    ∙ ap (λ (w : ℕ). field_of rv64 w (pn0 rv64 n))
    (word_is_peek F m t (n / 16 % 512) ∙ eqb-true _ 0 (every_in (λ i. eqb (peek F m t i) 0) (512 - k) k both.1 (n / 16 % 512) (omega arith) (omega arith)))
    ∙ zero_field (pn0 rv64 n)
first_found k m invalid n l u h = absurd (false≢true h)

none_found : (m : List ℕ) (e : Entry) (n : ℕ) → none e ≡ true → found F m e n ≡ perm 0
unfolding none found
none_found m (flat p) n h = ap perm (eqb-true p 0 h)
none_found m (pieces i) n h = absurd (false≢true h)
none_found m (table t) n h = absurd (false≢true h)
none_found m invalid n h = absurd (false≢true h)

far_walk : (k : ℕ) (m : List ℕ) (r n : ℕ) → far_root k m r ≡ true → 16 * k ≤ n → n < 262144 → walk F m (ppn_of rv64 r) n ≡ perm 0
unfolding far_root pn2
far_walk k m r n h l u =
    let both = and_true (first_far k m (entry_at F m (ppn_of rv64 r) 0)) (every (λ b. none (entry_at F m (ppn_of rv64 r) b)) 31 1) h in
    walk_in F m (ppn_of rv64 r) n (omega (arith, space_is))
    ∙ split (ltb n 8192)
    (λ z. let v : n < 8192 = ltb-true n 8192 z in
    let b : n / 8192 ≡ 0 = omega arith in
    ap (λ (i : ℕ). found F m (entry_at F m (ppn_of rv64 r) i) n) b ∙ first_found k m (entry_at F m (ppn_of rv64 r) 0) n l v both.0)
    (λ z. let v : 8192 ≤ n = ltb-false n 8192 z in
    none_found m (entry_at F m (ppn_of rv64 r) (n / 8192)) n (every_in (λ b. none (entry_at F m (ppn_of rv64 r) b)) 31 1 both.1 (n / 8192) (omega arith) (omega arith)))

module _ (s : Strength) (m : List ℕ) (k : ℕ) (c : Computed s m k) where
  open_below : (r n : ℕ) → Domain F slots r → opens F m r n ≡ true → n < 16 * k
  unfolding opens
  open_below r n d o =
      split (ltb n (16 * k))
      (ltb-true n (16 * k))
      (λ z. let far : far_root k m r ≡ true = each_mem (far_root k m) r (open_registers slots) c.far d in
      absurd (true≢false (sym o ∙ ap grants_any (far_walk k m r n far (ltb-false n (16 * k) z) (omega (arith, space_is, open_inside F m slots s r n o))) ∙ none_open)))

  -- ---- the premises

  pub premises : Apart F slots s m
  premises =
      record {
        frame = c.frame;
        sounds = sound_quick F m slots ∙ c.sounds;
        pages = λ r r' n d d' ne o.
            let near = every_in (near_page s m) (16 * k) 0 c.pages n (omega arith) (omega (arith, open_below r n d o)) in
            let one = each_mem (near_pair s m n r) r' (open_registers slots) (each_mem (λ x. each (near_pair s m n x) (open_registers slots)) r (open_registers slots) near d) d' in
            let clash = not-true-false (opens F m r n && reaches F m s r' n) (or_left (eqb r r') _ one (ne_eqb r r' ne)) in
            never_true (reaches F m s r' n) (and_false (opens F m r n) (reaches F m s r' n) clash o);
        table = λ r n d t.
            never_true (reaches F m s r n)
            (λ w.
            let near = every_in (near_table s m) (16 * k) 0 c.table n (omega arith) (omega (arith, open_below r n d (reaches_open F m s r n w))) in
            let all = or_left (not (table_page F m slots n)) _ near (ap not t) in
            true≢false (sym w ∙ not-true-false (reaches F m s r n) (each_mem (λ x. not (reaches F m s x n)) r (open_registers slots) all d)));
      }

open_near : (s : Strength) (r n : ℕ) → Domain F slots r → opens F (words s) r n ≡ true → n < 16
open_near s r n d o = open_below s (words s) 1 (computed s) r n d o

pub apart : (s : Strength) → Apart F slots s (words s)
apart s = premises s (words s) 1 (computed s)

pub table_is : (s : Strength) (v : ℕ) → table_of F (board s v) ≡ words s
table_is s v = table_for (words s) (others v) (size s) (low_at (words s) (words_low s))
  where
    low : ℕ → Bool
    low w = ltb w (16 ^ 16)

    low_at : (m : List ℕ) → each low m ≡ true → (i : ℕ) → get_or m i 0 < 16 ^ 16
    low_at [] h i = lit< tt
    low_at (x ∷ xs) h zero = ltb-true x (16 ^ 16) (and_true (low x) (each low xs) (sym (each_step low x xs) ∙ h)).0
    low_at (x ∷ xs) h (suc i) = low_at xs (and_true (low x) (each low xs) (sym (each_step low x xs) ∙ h)).1 i

pub apart_there : (s : Strength) (v : ℕ) → Apart F slots s (table_of F (board s v))
apart_there s v = subst (Apart F slots s) (sym (table_is s v)) (apart s)

others_three : (v : ℕ) → length (others v) ≡ 3
unfolding others
others_three v = refl

pub bench : (s : Strength) (v : ℕ) → Bench F slots (board s v)
bench s v =
    record {
      few = omega (arith, board_length (words s) (others v), others_three v);
      table_held = λ n t.
          let kept = apart_there s v in
          let l = table_lent F rv64_lawful slots (table_of F (board s v)) kept.frame kept.sounds n t in
          lent_held (words s) (others v) n (lent_low F n l) (lent_high F n l);
      open_held = λ r n d o'.
          let o : opens F (words s) r n ≡ true = ap (λ (m : List ℕ). opens F m r n) (sym (table_is s v)) ∙ o' in
          let near = open_near s r n d o in
          let test = each_mem (held_test s v n) r (open_registers slots) (every_in (λ k. each (held_test s v k) (open_registers slots)) 16 0 (near_held s v) n (omega arith) near) d in
          rest_held (words s) (others v) n near ∙ or_left (not (opens F (words s) r n)) (holds (others v) n) test (ap not o);
    }

pub domain0 : Domain F slots r0
unfolding compute slots
domain0 = Memᴰ.head refl

pub domain1 : Domain F slots r1
unfolding compute slots
domain1 = Memᴰ.tail (Memᴰ.head refl)

-- page 1 is not the first domain's: two boards may differ there
unseen : (s : Strength) → opens F (words s) r0 1 ≡ false
unfolding compute words fields0 fields1 opens grants_any grants
unseen strict = refl
unseen sharing = refl

same_others : (v v' x : ℕ) → page_of x ≢ 1 → load_byte (others v) x ≡ load_byte (others v') x
unfolding load_byte others
same_others v v' x ne = rw (ne_eqb 1 (page_of x) (λ z. ne (sym z))) refl

pub start : (s : Strength) (v v' : ℕ) → Start F slots (Bench F slots) r0 (board s v) (board s v')
start s v v' =
    record {
      domain = domain0;
      board = bench s v;
      board' = bench s v';
      table = λ page i h u. ap (λ (m : List ℕ). word_at F m page i) (table_is s v' ∙ sym (table_is s v));
      bytes = λ x o'.
          let o : opens F (words s) r0 (page_of x) ≡ true = ap (λ (m : List ℕ). opens F m r0 (page_of x)) (sym (table_is s v)) ∙ o' in
          let near = open_near s r0 (page_of x) domain0 o in
          rest_byte (words s) (others v) x near
          ∙ same_others v v' x (λ z. true≢false (sym o ∙ ap (opens F (words s) r0) z ∙ unseen s))
          ∙ sym (rest_byte (words s) (others v') x near);
    }
