-- What a frame within its bounds is, as numbers; what a lent page is; and where an entry of a page stands.
use mathlib.Core.Path.{◌≡◌, ap, ◌∙◌}
use mathlib.Core.Bool.{true}
use mathlib.Core.List.{List}
use Prim.Native.Nat.{ℕ, ◌+◌, ◌-◌, ◌*◌, ◌≤◌, ◌<◌, ◌^◌}
use native.Mathlib.Omega.{arith}
use lib.ListN.{length, get_or}
use lib.Pow.{pow_mono}
use borrow.Author.Tests.{leb-true, ltb-true, eqb-true}
use Rattle.model.specs.Entry.{decode}
use Rattle.model.specs.Frame.{Frame, space, lent, bounds_ok, frame_ok, index_of, word_at}
use Rattle.model.specs.Walk.{entry_at, entry_page, entry_place, l2_word}
use Rattle.laws.proofs.Choices.{and_true}

pub record Bounds (F : Frame) : Type 0 where
  pub paw_low_lem : 30 ≤ F.paw
  pub paw_high_lem : F.paw ≤ F.layout.max_paw
  pub two : 2 ≤ F.pages
  pub most : F.pages ≤ F.layout.max_pages
  pub first : 1 ≤ F.first
  pub room : F.first + F.pages ≤ 2 ^ (F.paw - 12)

pub bounds : (F : Frame) → bounds_ok F ≡ true → Bounds F
unfolding bounds_ok space
bounds F h =
    let h5 = and_true _ _ h in
    let h4 = and_true _ _ h5.0 in
    let h3 = and_true _ _ h4.0 in
    let h2 = and_true _ _ h3.0 in
    let h1 = and_true _ _ h2.0 in
    record {
      paw_low_lem = leb-true _ _ h1.0;
      paw_high_lem = leb-true _ _ h1.1;
      two = leb-true _ _ h2.1;
      most = leb-true _ _ h3.1;
      first = leb-true _ _ h4.1;
      room = leb-true _ _ h5.1;
    }

-- a frame that is accepted is within its bounds, and its memory is whole pages
pub framed : (F : Frame) (m : List ℕ) → frame_ok F m ≡ true → (bounds_ok F ≡ true) × (length m ≡ F.pages * F.layout.words)
unfolding frame_ok
framed F m h = let k = and_true _ _ h in (k.0, eqb-true _ _ k.1)

-- a lent page is one of the pages from the first
pub lent_in : (F : Frame) (page : ℕ) → lent F page ≡ true → (F.first ≤ page) × (page < F.first + F.pages)
unfolding lent
lent_in F page h = let k = and_true _ _ h in (leb-true _ _ k.0, ltb-true _ _ k.1)

-- entry i of a page stands i words after its start
pub index_add : (F : Frame) (page i : ℕ) → index_of F page 0 + i ≡ index_of F page i
unfolding index_of
index_add F page i = omega arith

pub word_at_lem : (F : Frame) (m : List ℕ) (page i r : ℕ) → r ≡ index_of F page 0 → get_or m (r + i) 0 ≡ word_at F m page i
unfolding word_at
word_at_lem F m page i r e = ap (λ (k : ℕ). get_or m k 0) (ap (λ (k : ℕ). k + i) e ∙ index_add F page i)

-- L2 entry b of a lent root stands b words after the root's start
pub entry_at_lem : (F : Frame) (m : List ℕ) (root b r : ℕ) → lent F root ≡ true → r ≡ index_of F root 0
    → decode F.layout (get_or m (r + b) 0) ≡ entry_at F m root b
unfolding entry_at entry_page entry_place l2_word
entry_at_lem F m root b r h e = rw h (ap (decode F.layout) (word_at_lem F m root b r e))

-- 2^(PAW-12) pages and 2^(PAW-25) blocks, at PAW 34 at the most
pub few_pages : (paw : ℕ) → paw ≤ 34 → 2 ^ (paw - 12) ≤ 2 ^ 22
few_pages paw h = pow_mono {i = paw - 12} {j = 22} (omega arith)

pub few_blocks : (paw : ℕ) → paw ≤ 34 → 2 ^ (paw - 25) ≤ 512
few_blocks paw h = pow_mono {i = paw - 25} {j = 9} (omega arith)
