-- The range of an edit that refusal 5 does not fit: whole pages, inside the address space; which blocks and pages it touches.
use mathlib.Core.Path.{◌≡◌, refl, ap, ◌∙◌}
use mathlib.Core.Bool.{true, false, not, ◌||◌}
use mathlib.Core.Logic.{◌⊎◌, inl, inr, ◌≢◌}
use Prim.Native.Nat.{ℕ, ◌+◌, ◌*◌, ◌-◌, ◌/◌, ◌%◌, ◌^◌, ◌≤◌, ◌<◌}
use native.Mathlib.Omega.{arith}
use lib.Dec.{eqb, leb, ltb}
use lib.Pow.{pow-add}
use borrow.Author.Tests.{eqb-true, eqb-false, ltb-true, ltb-false, lt-ltb, le-ltb, leb-true, le-leb, lt-leb}
use Rattle.model.specs.Layout.{gib_blocks, page_bytes}
use Rattle.model.specs.Frame.{Frame, blocks, page_of, space}
use Rattle.model.specs.Walk.{pn2}
use Rattle.model.specs.Forms.{Request, first_gib, gibs, in_range}
use Rattle.model.specs.Calls.{bad_range}
use Rattle.laws.proofs.Choices.{and_both, and_true, not-false-true, or_false, split}
use Rattle.theory.proofs.Frames.{Ok}

-- what it says that refusal 5 does not fit
pub record GoodRange (F : Frame) (q : Request) : Type 0 where
  pub some : 0 < q.size
  pub start_page : q.start % page_bytes ≡ 0
  pub size_page : q.size % page_bytes ≡ 0
  pub ends : q.start + q.size ≤ 2 ^ F.paw

pub good_range : (F : Frame) (q : Request) → bad_range F q ≡ false → GoodRange F q
unfolding bad_range
good_range F q h =
    let a = or_false (eqb q.size 0 || not (eqb (q.start % page_bytes) 0) || not (eqb (q.size % page_bytes) 0)) (ltb (2 ^ F.paw) (q.start + q.size)) h in
    let b = or_false (eqb q.size 0 || not (eqb (q.start % page_bytes) 0)) (not (eqb (q.size % page_bytes) 0)) a.0 in
    let c = or_false (eqb q.size 0) (not (eqb (q.start % page_bytes) 0)) b.0 in
    let ne : q.size ≢ 0 = eqb-false q.size 0 c.0 in
    record {
      some = omega arith;
      start_page = eqb-true (q.start % page_bytes) 0 (not-false-true _ c.1);
      size_page = eqb-true (q.size % page_bytes) 0 (not-false-true _ b.1);
      ends = ltb-false (2 ^ F.paw) (q.start + q.size) a.1;
    }

module _ (F : Frame) (q : Request) where
  -- a page of the range lies in a touched GiB
  pub range_touched : (n : ℕ) → in_range q n ≡ true → (first_gib q * gib_blocks ≤ pn2 n) × (pn2 n < first_gib q * gib_blocks + gibs q * gib_blocks)
  unfolding in_range first_gib gibs pn2
  range_touched n h =
      let a = and_true (leb q.start (n * page_bytes)) (ltb (n * page_bytes) (q.start + q.size)) h in
      let l = leb-true q.start (n * page_bytes) a.0 in
      let u = ltb-true (n * page_bytes) (q.start + q.size) a.1 in
      (omega arith, omega arith)

  module _ (r : GoodRange F q) where
    -- the touched GiBs lie in the address space
    pub touched_inside : Ok F → first_gib q * gib_blocks + gibs q * gib_blocks ≤ blocks F
    unfolding first_gib gibs blocks
    touched_inside ok =
        let e : F.paw ≡ F.paw - 30 + 30 = omega (arith, ok.paw_low) in
        let f : F.paw - 25 ≡ F.paw - 30 + 5 = omega (arith, ok.paw_low) in
        let p : 2 ^ F.paw ≡ 2 ^ (F.paw - 30) * 2 ^ 30 = ap (λ (k : ℕ). 2 ^ k) e ∙ pow-add 2 (F.paw - 30) 30 in
        let g : 2 ^ (F.paw - 25) ≡ 2 ^ (F.paw - 30) * 32 = ap (λ (k : ℕ). 2 ^ k) f ∙ pow-add 2 (F.paw - 30) 5 in
        omega (arith, p, g, r.ends, r.some)

    -- an address of the range is of a page of the range, and no other address is
    pub address_inside : (address : ℕ) → q.start ≤ address → address < q.start + q.size → in_range q (page_of address) ≡ true
    unfolding in_range page_of
    address_inside address lo hi =
        and_both (le-leb q.start (address / page_bytes * page_bytes) (omega (arith, r.start_page)))
        (lt-ltb (address / page_bytes * page_bytes) (q.start + q.size) (omega (arith, r.start_page, r.size_page)))

    pub address_outside : (address : ℕ) → (address < q.start) ⊎ (q.start + q.size ≤ address) → in_range q (page_of address) ≡ false
    unfolding in_range page_of
    address_outside address (inl low) = rw (lt-leb q.start (address / page_bytes * page_bytes) (omega (arith, r.start_page))) refl
    address_outside address (inr high) =
        split (leb q.start (address / page_bytes * page_bytes))
        (λ z. rw (z, le-ltb (address / page_bytes * page_bytes) (q.start + q.size) (omega (arith, r.start_page, r.size_page))) refl)
        (λ z. rw z refl)

    pub address_space : Ok F → (address : ℕ) → address < q.start + q.size → page_of address < space F
    unfolding page_of space
    address_space ok address hi =
        let e : F.paw ≡ F.paw - 12 + 12 = omega (arith, ok.paw_low) in
        let p : 2 ^ F.paw ≡ 2 ^ (F.paw - 12) * 2 ^ 12 = ap (λ (k : ℕ). 2 ^ k) e ∙ pow-add 2 (F.paw - 12) 12 in
        omega (arith, p, r.ends)
