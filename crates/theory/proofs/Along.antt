-- What holds of the memory before, between and after the stores of a list.
use mathlib.Core.Path.{◌≡◌, refl, sym, ap, ◌∙◌, subst}
use mathlib.Core.Logic.{◌≢◌}
use mathlib.Core.List.{List, [], ◌∷◌, ◌++◌}
use Prim.Native.Nat.{ℕ, zero, suc, ◌+◌, ◌*◌, ◌/◌, ◌<◌}
use native.Mathlib.Nat.{not-suc-le-zero, le_of_suc-le-suc}
use lib.ListN.{length, length-set, set, take, get_or}
use Rattle.model.specs.Numbers.{digit}
use Rattle.model.specs.Layout.{Layout}
use Rattle.model.specs.Frame.{Frame}
use Rattle.model.specs.Bytes.{byte_at, entry_bytes}
use Rattle.model.specs.Walk.{entry_page, entry_place}
use Rattle.model.specs.Stores.{Store, apply, store_at, store_l2}
use Rattle.laws.proofs.Bytes.{store_other_bytes, store_own_bytes}
use Rattle.theory.proofs.Memory.{put}

pub apply_append : (ss ts : List Store) (m : List ℕ) → apply (ss ++ ts) m ≡ apply ts (apply ss m)
unfolding apply
apply_append [] ts m = refl
apply_append (s ∷ ss) ts m = apply_append ss ts (set m s.at s.word)

pub apply_none : (m : List ℕ) → apply [] m ≡ m
unfolding apply
apply_none m = refl

-- stores keep the number of words
pub apply_length : (ss : List Store) (m : List ℕ) → length (apply ss m) ≡ length m
unfolding apply
apply_length [] m = refl
apply_length (s ∷ ss) m = apply_length ss (set m s.at s.word) ∙ length-set m s.at s.word

pub apply_one : (F : Frame) (p i w : ℕ) (m : List ℕ) → apply (store_at F p i w ∷ []) m ≡ put F m p i w
unfolding apply store_at put
apply_one F p i w m = refl

pub apply_l2 : (F : Frame) (r b w : ℕ) (m : List ℕ) → apply (store_l2 F r b w ∷ []) m ≡ put F m (entry_page F r b) (entry_place F b) w
unfolding store_l2
apply_l2 F r b w m = apply_one F (entry_page F r b) (entry_place F b) w m

module _ (P : List ℕ → Type 0) where
  unfoldable pub Along : List Store → List ℕ → Type 0
  Along [] m = P m
  Along (s ∷ ss) m = P m × Along ss (set m s.at s.word)

  pub along_none : (m : List ℕ) → P m → Along [] m
  unfolding Along
  along_none m h = h

  pub along_one : (F : Frame) (p i w : ℕ) (m : List ℕ) → P m → P (put F m p i w) → Along (store_at F p i w ∷ []) m
  unfolding Along store_at put
  along_one F p i w m h k = (h, k)

  pub along_l2 : (F : Frame) (r b w : ℕ) (m : List ℕ) → P m → P (put F m (entry_page F r b) (entry_place F b) w) → Along (store_l2 F r b w ∷ []) m
  unfolding store_l2
  along_l2 F r b w m h k = along_one F (entry_page F r b) (entry_place F b) w m h k

  pub along_append : (ss ts : List Store) (m : List ℕ) → Along ss m → Along ts (apply ss m) → Along (ss ++ ts) m
  unfolding Along apply
  along_append [] ts m a b = b
  along_append (s ∷ ss) ts m a b = (a.0, along_append ss ts (set m s.at s.word) a.1 b)

  pub along_start : (ss : List Store) (m : List ℕ) → Along ss m → P m
  unfolding Along
  along_start [] m a = a
  along_start (s ∷ ss) m a = a.0

  -- wherever the stores are cut
  pub along_take : (ss : List Store) (m : List ℕ) → Along ss m → (k : ℕ) → P (apply (take k ss) m)
  unfolding Along apply
  along_take ss m a zero = along_start ss m a
  along_take [] m a (suc k) = a
  along_take (s ∷ ss) m a (suc k) = along_take ss (set m s.at s.word) a.1 k

  pub along_end : (ss : List Store) (m : List ℕ) → Along ss m → P (apply ss m)
  unfolding Along apply
  along_end [] m a = a
  along_end (s ∷ ss) m a = along_end ss (set m s.at s.word) a.1

pub along_map : (P Q : List ℕ → Type 0) → ((m : List ℕ) → P m → Q m) → (ss : List Store) (m : List ℕ) → Along P ss m → Along Q ss m
unfolding Along
along_map P Q f [] m a = f m a
along_map P Q f (s ∷ ss) m a = (f m a.0, along_map P Q f ss (set m s.at s.word) a.1)

-- the store after the first k turns what limit k leaves into what limit k + 1 leaves
pub next_store : (ss : List Store) (m : List ℕ) (k : ℕ) (d : Store) → k < length ss
    → apply (take (suc k) ss) m ≡ set (apply (take k ss) m) (get_or ss k d).at (get_or ss k d).word
unfolding apply
next_store [] m k d h = absurd (not-suc-le-zero h)
next_store (s ∷ ss) m zero d h = refl
next_store (s ∷ ss) m (suc k) d h = next_store ss (set m s.at s.word) k d (le_of_suc-le-suc h)

-- the same by bytes: those of its word become the stored word's, and no other changes
module _ (L : Layout) (ss : List Store) (m : List ℕ) (k : ℕ) (d : Store) (below : k < length ss) where
  abbrev s : Store
  s = get_or ss k d

  pub next_own_bytes : (i : ℕ) → s.at < length m → i < entry_bytes L → byte_at L (apply (take (suc k) ss) m) (s.at * entry_bytes L + i) ≡ digit 256 s.word i
  next_own_bytes i inside h =
      ap (λ (x : List ℕ). byte_at L x (s.at * entry_bytes L + i)) (next_store ss m k d below)
      ∙ store_own_bytes L (apply (take k ss) m) s.at s.word i (subst (λ (x : ℕ). s.at < x) (sym (apply_length (take k ss) m)) inside) h

  pub next_other_bytes : (n : ℕ) → n / entry_bytes L ≢ s.at → byte_at L (apply (take (suc k) ss) m) n ≡ byte_at L (apply (take k ss) m) n
  next_other_bytes n ne =
      ap (λ (x : List ℕ). byte_at L x n) (next_store ss m k d below) ∙ store_other_bytes L (apply (take k ss) m) s.at s.word n ne
