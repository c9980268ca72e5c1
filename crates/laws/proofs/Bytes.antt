-- The lent memory by bytes: a store changes the bytes of its word, to those of the word stored, and no other; and the bytes say all that
-- the memory holds. The idea: byte i of word k is byte k * (bytes of an entry) + i of the memory, and a word is what its bytes pack.
use mathlib.Core.Path.{◌≡◌, refl, sym, ap, ap₂, ◌∙◌, subst}
use mathlib.Core.Logic.{◌≢◌}
use mathlib.Core.List.{List}
use Prim.Native.Nat.{ℕ, zero, suc, ◌+◌, ◌*◌, ◌-◌, ◌/◌, ◌%◌, ◌^◌, ◌<◌}
use native.Mathlib.Nat.{pow-zero, pow-succ'}
use native.Mathlib.Omega.{arith}
use lib.Arith.{digits_div, digits_mod}
use lib.ListN.{get_or, length, set}
use lib.Pow.{pow-add}
use lib.Seq.{ext_get_or, get_or-set_same, get_or-set_other}
use Rattle.model.specs.Numbers.{digit, pack}
use Rattle.model.specs.Layout.{Layout, rv32, rv64}
use Rattle.model.specs.Bytes.{byte_at, entry_bytes}
use Rattle.laws.proofs.Digits.{pack_cong, pack_digit}

module _ (L : Layout) where
  -- byte i of word k
  pub byte_of_word : (m : List ℕ) (k i : ℕ) → i < entry_bytes L → byte_at L m (k * entry_bytes L + i) ≡ digit 256 (get_or m k 0) i
  unfolding byte_at
  byte_of_word m k i h = ap₂ (λ (x y : ℕ). digit 256 (get_or m x 0) y) (digits_div k h) (digits_mod k h)

  -- ---- one store

  pub store_own_bytes : (m : List ℕ) (at w i : ℕ) → at < length m → i < entry_bytes L → byte_at L (set m at w) (at * entry_bytes L + i) ≡ digit 256 w i
  store_own_bytes m at w i h l = byte_of_word (set m at w) at i l ∙ ap (λ (x : ℕ). digit 256 x i) (get_or-set_same m at w 0 h)

  pub store_other_bytes : (m : List ℕ) (at w n : ℕ) → n / entry_bytes L ≢ at → byte_at L (set m at w) n ≡ byte_at L m n
  unfolding byte_at
  store_other_bytes m at w n ne = ap (λ (x : ℕ). digit 256 x (n % entry_bytes L)) (get_or-set_other m at (n / entry_bytes L) w 0 ne)

  -- ---- the bytes say all

  module _ (even : entry_bytes L * 2 ≡ L.fields) where
    -- as many bytes as an entry has hold what an entry can
    bytes_fit : (n : ℕ) → 256 ^ n ≡ 16 ^ (n * 2)
    bytes_fit zero = omega (arith, pow-zero 256, pow-zero 16)
    bytes_fit (suc n) =
        let z : 2 + n * 2 ≡ suc n * 2 = omega arith in
        pow-succ' 256 n ∙ ap (λ (x : ℕ). 256 * x) (bytes_fit n) ∙ sym (pow-add 16 2 (n * 2)) ∙ ap (λ (x : ℕ). 16 ^ x) z

    -- an entry is what its bytes pack
    pub entry_of_bytes : (w : ℕ) → w < 16 ^ L.fields → pack 256 (digit 256 w) (entry_bytes L) 0 ≡ w
    entry_of_bytes w h =
        pack_cong 256 (digit 256 w) (λ k. digit 256 w (k - 0)) (entry_bytes L) 0 (λ k l u. let z : k ≡ k - 0 = omega arith in ap (digit 256 w) z)
        ∙ pack_digit 256 (omega arith) (entry_bytes L) w 0 (subst (λ (x : ℕ). w < x) (ap (λ (x : ℕ). 16 ^ x) (sym even) ∙ sym (bytes_fit (entry_bytes L))) h)

    -- two memories of entries that have the same bytes are the same
    pub same_bytes : (m m' : List ℕ) → ((k : ℕ) → get_or m k 0 < 16 ^ L.fields) → ((k : ℕ) → get_or m' k 0 < 16 ^ L.fields) → length m ≡ length m'
        → ((n : ℕ) → byte_at L m n ≡ byte_at L m' n) → m ≡ m'
    same_bytes m m' low low' len e =
        ext_get_or 0 m m' len
        (λ k u. sym (entry_of_bytes (get_or m k 0) (low k))
        ∙ pack_cong 256 (digit 256 (get_or m k 0)) (digit 256 (get_or m' k 0)) (entry_bytes L) 0
        (λ i l v. let z : i < entry_bytes L = omega arith in sym (byte_of_word m k i z) ∙ e (k * entry_bytes L + i) ∙ byte_of_word m' k i z)
        ∙ entry_of_bytes (get_or m' k 0) (low' k))

-- ---- the two boards

pub rv64_even : entry_bytes rv64 * 2 ≡ rv64.fields
rv64_even = refl

pub rv32_even : entry_bytes rv32 * 2 ≡ rv32.fields
rv32_even = refl
