-- A page in the range, and one outside, as numbers.
use mathlib.Core.Path.{◌≡◌, sym, ◌∙◌}
use mathlib.Core.Bool.{true, false, true≢false, and-false}
use Prim.Native.Nat.{ℕ, ◌+◌, ◌*◌, ◌/◌, ◌-◌, ◌≤◌, ◌<◌}
use native.Mathlib.Omega.{arith}
use lib.Dec.{leb, ltb}
use borrow.Author.Tests.{lt-ltb, le-ltb, le-leb, lt-leb, leb-true, leb-false, ltb-true, ltb-false}
use Rattle.laws.proofs.Choices.{split, and_true, and_both}
use Rattle.model.specs.Forms.{Request, in_range}
use Rattle.model.specs.Layout.{page_bytes}

pub in_true : (q : Request) (n : ℕ) → q.start ≤ n * page_bytes → n * page_bytes < q.start + q.size → in_range q n ≡ true
unfolding in_range
in_true q n l u = and_both (le-leb q.start (n * page_bytes) l) (lt-ltb (n * page_bytes) (q.start + q.size) u)

pub below_false : (q : Request) (n : ℕ) → n * page_bytes < q.start → in_range q n ≡ false
unfolding in_range
below_false q n l = rw (lt-leb q.start (n * page_bytes) l)

pub above_false : (q : Request) (n : ℕ) → q.start + q.size ≤ n * page_bytes → in_range q n ≡ false
unfolding in_range
above_false q n u = rw (le-ltb (n * page_bytes) (q.start + q.size) u) (and-false (leb q.start (n * page_bytes)))

-- ---- and from the test to the numbers

pub in_at : (q : Request) (n : ℕ) → in_range q n ≡ true → (q.start ≤ n * page_bytes) × (n * page_bytes < q.start + q.size)
unfolding in_range
in_at q n h = let k = and_true _ _ h in (leb-true _ _ k.0, ltb-true _ _ k.1)

pub out_below : (q : Request) (n : ℕ) → in_range q n ≡ false → n * page_bytes < q.start + q.size → n * page_bytes < q.start
out_below q n h l =
    split (leb q.start (n * page_bytes))
    (λ z. absurd (true≢false (sym (in_true q n (leb-true _ _ z) l) ∙ h)))
    (λ z. leb-false _ _ z)

pub out_above : (q : Request) (n : ℕ) → in_range q n ≡ false → q.start ≤ n * page_bytes → q.start + q.size ≤ n * page_bytes
out_above q n h l =
    split (ltb (n * page_bytes) (q.start + q.size))
    (λ z. absurd (true≢false (sym (in_true q n l (ltb-true _ _ z)) ∙ h)))
    (λ z. ltb-false _ _ z)

-- ---- the ends in pages: the first page from the start on, and the first from the end on

abbrev pub first_page : Request → ℕ
first_page q = (q.start + (page_bytes - 1)) / page_bytes

abbrev pub past_page : Request → ℕ
past_page q = (q.start + q.size + (page_bytes - 1)) / page_bytes

pub within : (q : Request) (n : ℕ) → first_page q ≤ n → n < past_page q → in_range q n ≡ true
within q n l u = in_true q n (omega arith) (omega arith)

pub under : (q : Request) (n : ℕ) → n < first_page q → in_range q n ≡ false
under q n l = below_false q n (omega arith)

pub over : (q : Request) (n : ℕ) → past_page q ≤ n → in_range q n ≡ false
over q n l = above_false q n (omega arith)

-- a range that has no page's start
pub empty_false : (q : Request) (n : ℕ) → first_page q ≡ past_page q → in_range q n ≡ false
empty_false q n z =
    split (leb (first_page q) n)
    (λ y. over q n (omega (arith, leb-true (first_page q) n y)))
    (λ y. under q n (leb-false (first_page q) n y))

-- a page in the range beside one outside: an end lies between them
pub end_first : (q : Request) (s k : ℕ) → in_range q s ≡ false → in_range q k ≡ true → s ≤ k → (s < first_page q) × (first_page q ≤ k)
end_first q s k y x l = let h = in_at q k x in (omega (arith, out_below q s y (omega arith)), omega arith)

pub end_past : (q : Request) (s k : ℕ) → in_range q s ≡ true → in_range q k ≡ false → s ≤ k → (s < past_page q) × (past_page q ≤ k)
end_past q s k y x l = let h = in_at q s y in (omega arith, omega (arith, out_above q k x (omega arith)))
