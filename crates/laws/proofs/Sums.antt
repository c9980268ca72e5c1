-- Sums over a run of numbers and over a list: what one change does to them.
use mathlib.Core.Path.{◌≡◌, refl, sym, ap, ap₂, ◌∙◌}
use mathlib.Core.Logic.{◌≢◌}
use mathlib.Core.List.{List, [], ◌∷◌, ◌++◌}
use Prim.Native.Nat.{ℕ, zero, suc, ◌+◌, ◌*◌, ◌≤◌, ◌<◌, zero-le}
use native.Mathlib.Nat.{not-suc-le-zero, add-zero, zero-add}
use native.Mathlib.Omega.{arith}
use lib.ListN.{length, length-append}
use lib.Dec.{eqb, ltb}
use borrow.Author.Tests.{eqb-true, eqb-false, eq-eqb, ne_eqb}
use Rattle.model.specs.Numbers.{joined}
use Rattle.laws.proofs.Choices.{split}
use Rattle.laws.proofs.Times.{times, times_none, times_append}

-- ---- over the n numbers from s

unfoldable pub sum : (ℕ → ℕ) → ℕ → ℕ → ℕ
sum g zero s = 0
sum g (suc n) s = g s + sum g n (suc s)

-- what adds up over joined lists: how often a number stands in a list, and the length
pub record Measure {A : Type 0} (μ : List A → ℕ) : Type 0 where
  pub none : μ [] ≡ 0
  pub join : (s t : List A) → μ (s ++ t) ≡ μ s + μ t

pub times_measure : (x : ℕ) → Measure (times x)
times_measure x = record { none = times_none x; join = times_append x }

pub length_measure : {A : Type 0} → Measure {A = A} (λ l. length l)
length_measure = record { none = refl; join = length-append }

pub joined_measure : {A : Type 0} (μ : List A → ℕ) → Measure μ → (f : ℕ → List A) (n s : ℕ) → μ (joined f n s) ≡ sum (λ k. μ (f k)) n s
unfolding joined sum
joined_measure μ h f zero s = h.none
joined_measure μ h f (suc n) s = h.join (f s) (joined f n (suc s)) ∙ ap (λ (k : ℕ). μ (f s) + k) (joined_measure μ h f n (suc s))

pub sum_cong : (g h : ℕ → ℕ) (n s : ℕ) → ((k : ℕ) → s ≤ k → k < s + n → g k ≡ h k) → sum g n s ≡ sum h n s
unfolding sum
sum_cong g h zero s e = refl
sum_cong g h (suc n) s e =
    ap₂ (λ (a b : ℕ). a + b) (e s (omega arith) (omega arith)) (sum_cong g h n (suc s) (λ k l u. e k (omega arith) (omega arith)))

pub sum_le : (g h : ℕ → ℕ) (n s : ℕ) → ((k : ℕ) → s ≤ k → k < s + n → g k ≤ h k) → sum g n s ≤ sum h n s
unfolding sum
sum_le g h zero s e = zero-le
sum_le g h (suc n) s e =
    omega (arith, e s (omega arith) (omega arith), sum_le g h n (suc s) (λ k l u. e k (omega arith) (omega arith)))

pub sum_add : (g h : ℕ → ℕ) (n s : ℕ) → sum (λ k. g k + h k) n s ≡ sum g n s + sum h n s
unfolding sum
sum_add g h zero s = refl
sum_add g h (suc n) s = omega (arith, sum_add g h n (suc s))

pub sum_const : (c n s : ℕ) → sum (λ k. c) n s ≡ n * c
unfolding sum
sum_const c zero s = omega arith
sum_const c (suc n) s = omega (arith, sum_const c n (suc s))

pub sum_split : (g : ℕ → ℕ) (a n s : ℕ) → sum g (a + n) s ≡ sum g a s + sum g n (s + a)
unfolding sum
sum_split g zero n s = ap₂ (λ (k t : ℕ). sum g k t) (zero-add n) (sym (add-zero s)) ∙ omega arith
sum_split g (suc a) n s =
    let e : suc a + n ≡ suc (a + n) = omega arith in
    let f : s + suc a ≡ suc s + a = omega arith in
    rw (e, f) (omega (arith, sum_split g a n (suc s)))

-- one number more
pub sum_last : (g : ℕ → ℕ) (n : ℕ) → sum g (n + 1) 0 ≡ sum g n 0 + g n
unfolding sum
sum_last g n = sum_split g n 1 0 ∙ ap (λ (k : ℕ). sum g n 0 + k) (add-zero (g (0 + n)) ∙ ap g (zero-add n))

-- the numbers differ at b alone
pub sum_change : (g h : ℕ → ℕ) (b n s : ℕ) → ((k : ℕ) → s ≤ k → k < s + n → k ≢ b → h k ≡ g k) → s ≤ b → b < s + n → sum h n s + g b ≡ sum g n s + h b
unfolding sum
sum_change g h b zero s e l u = absurd (omega arith)
sum_change g h b (suc n) s e l u =
    split (eqb s b)
    (λ q. let same : s ≡ b = eqb-true s b q in
    let rest : sum h n (suc s) ≡ sum g n (suc s) = sum_cong h g n (suc s) (λ k lo hi. e k (omega arith) (omega arith) (λ r. omega (arith, r, same))) in
    rw same (omega (arith, rw same at rest)))
    (λ q. let ne : s ≢ b = eqb-false s b q in
    omega (arith, e s (omega arith) (omega arith) ne, sum_change g h b n (suc s) (λ k lo hi. e k (omega arith) (omega arith)) (omega arith) (omega arith)))

pub sum_one : (g : ℕ → ℕ) (b n s : ℕ) → s ≤ b → b < s + n → g b ≤ sum g n s
unfolding sum
sum_one g b zero s l u = absurd (omega arith)
sum_one g b (suc n) s l u =
    split (eqb s b)
    (λ q. let same : s ≡ b = eqb-true s b q in rw same (omega arith))
    (λ q. let ne : s ≢ b = eqb-false s b q in omega (arith, sum_one g b n (suc s) (omega arith) (omega arith)))

pub sum_two : (g : ℕ → ℕ) (b c n s : ℕ) → b ≢ c → s ≤ b → b < s + n → s ≤ c → c < s + n → g b + g c ≤ sum g n s
unfolding sum
sum_two g b c zero s d lb ub lc uc = absurd (omega arith)
sum_two g b c (suc n) s d lb ub lc uc =
    split (eqb s b)
    (λ q. let same : s ≡ b = eqb-true s b q in
    let more : g c ≤ sum g n (suc s) = sum_one g c n (suc s) (omega arith) (omega arith) in
    let at : g s ≡ g b = ap g same in omega arith)
    (λ q. let ne : s ≢ b = eqb-false s b q in
    split (eqb s c)
    (λ r. let same : s ≡ c = eqb-true s c r in
    let more : g b ≤ sum g n (suc s) = sum_one g b n (suc s) (omega arith) (omega arith) in
    let at : g s ≡ g c = ap g same in omega arith)
    (λ r. let ne2 : s ≢ c = eqb-false s c r in
    omega (arith, sum_two g b c n (suc s) d (omega arith) (omega arith) (omega arith) (omega arith))))

-- some number of a positive sum is positive
pub sum_some : (g : ℕ → ℕ) (n s : ℕ) → 0 < sum g n s → (b : ℕ) × (s ≤ b) × (b < s + n) × (0 < g b)
unfolding sum
sum_some g zero s h = absurd (not-suc-le-zero h)
sum_some g (suc n) s h =
    split (ltb 0 (g s))
    (λ q. (s, omega arith, omega arith, borrow.Author.Tests.ltb-true 0 (g s) q))
    (λ q. let none : g s ≤ 0 = borrow.Author.Tests.ltb-false 0 (g s) q in
    let r = sum_some g n (suc s) (omega arith) in
    (r.0, omega (arith, r.1), omega (arith, r.2), r.3))

-- ---- over the numbers of a list

unfoldable pub total : (ℕ → ℕ) → List ℕ → ℕ
total g [] = 0
total g (r ∷ rs) = g r + total g rs

pub total_cong : (g h : ℕ → ℕ) (rs : List ℕ) → ((r : ℕ) → 0 < times r rs → g r ≡ h r) → total g rs ≡ total h rs
unfolding total times
total_cong g h [] e = refl
total_cong g h (r ∷ rs) e =
    ap₂ (λ (a b : ℕ). a + b) (e r (rw (eq-eqb r r refl) (omega arith))) (total_cong g h rs (λ k l. e k (omega arith)))

pub total_change : (g h : ℕ → ℕ) (b : ℕ) (rs : List ℕ) → ((k : ℕ) → 0 < times k rs → k ≢ b → h k ≡ g k) → times b rs ≡ 1 → total h rs + g b ≡ total g rs + h b
unfolding total times
total_change g h b [] e t = absurd (omega arith)
total_change g h b (r ∷ rs) e t =
    split (eqb b r)
    (λ q. let same : b ≡ r = eqb-true b r q in
    let t' : 1 + times b rs ≡ 1 = rw q at t in
    let rest : total h rs ≡ total g rs = total_cong h g rs (λ k l. e k (omega arith) (λ z. omega (arith, t', l, ap (λ (y : ℕ). times y rs) z))) in
    rw same (omega arith))
    (λ q. let ne : b ≢ r = eqb-false b r q in
    let t' : 0 + times b rs ≡ 1 = rw q at t in
    omega (arith, e r (rw (eq-eqb r r refl) (omega arith)) (λ z. ne (sym z)), total_change g h b rs (λ k l. e k (omega arith)) (omega arith)))

pub total_one : (g : ℕ → ℕ) (b : ℕ) (rs : List ℕ) → 0 < times b rs → g b ≤ total g rs
unfolding total times
total_one g b [] t = absurd (not-suc-le-zero t)
total_one g b (r ∷ rs) t =
    split (eqb b r)
    (λ q. let at : g b ≡ g r = ap g (eqb-true b r q) in omega arith)
    (λ q. let t' : 0 < 0 + times b rs = rw q at t in omega (arith, total_one g b rs (omega arith)))

-- a number that stands twice counts twice
pub total_times : (g : ℕ → ℕ) (b : ℕ) (rs : List ℕ) → times b rs * g b ≤ total g rs
unfolding total times
total_times g b [] = omega arith
total_times g b (r ∷ rs) =
    split (eqb b r)
    (λ q. let at : g b ≡ g r = ap g (eqb-true b r q) in rw q (omega (arith, total_times g b rs)))
    (λ q. rw q (omega (arith, total_times g b rs)))

pub total_two : (g : ℕ → ℕ) (b c : ℕ) (rs : List ℕ) → b ≢ c → 0 < times b rs → 0 < times c rs → g b + g c ≤ total g rs
unfolding total times
total_two g b c [] d tb tc = absurd (not-suc-le-zero tb)
total_two g b c (r ∷ rs) d tb tc =
    split (eqb b r)
    (λ q. let same : b ≡ r = eqb-true b r q in
    let ne : c ≢ r = λ z. d (same ∙ sym z) in
    let t' : 0 < 0 + times c rs = rw (ne_eqb c r ne) at tc in
    let at : g b ≡ g r = ap g same in
    omega (arith, total_one g c rs (omega arith)))
    (λ q. let tb' : 0 < 0 + times b rs = rw q at tb in
    split (eqb c r)
    (λ p. let at : g c ≡ g r = ap g (eqb-true c r p) in omega (arith, total_one g b rs (omega arith)))
    (λ p. let tc' : 0 < 0 + times c rs = rw p at tc in omega (arith, total_two g b c rs d (omega arith) (omega arith))))

pub total_some : (g : ℕ → ℕ) (rs : List ℕ) → 0 < total g rs → (r : ℕ) × (0 < times r rs) × (0 < g r)
unfolding total times
total_some g [] h = absurd (not-suc-le-zero h)
total_some g (r ∷ rs) h =
    split (ltb 0 (g r))
    (λ q. (r, rw (eq-eqb r r refl) (omega arith), borrow.Author.Tests.ltb-true 0 (g r) q))
    (λ q. let none : g r ≤ 0 = borrow.Author.Tests.ltb-false 0 (g r) q in
    let k = total_some g rs (omega arith) in
    (k.0, omega (arith, k.1), k.2))

pub total_one_of : (g : ℕ → ℕ) (r : ℕ) → total g (r ∷ []) ≡ g r
unfolding total
total_one_of g r = add-zero (g r)
