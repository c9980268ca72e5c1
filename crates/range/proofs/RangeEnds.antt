-- The range of an edit: a sum that may wrap, tested without it; and what a good range says.
use mathlib.Core.Path.{◌≡◌, sym, ◌∙◌}
use mathlib.Core.Bool.{true, false}
use Prim.Native.Nat.{ℕ, ◌+◌, ◌-◌, ◌≤◌, ◌<◌, ◌^◌}
use native.Mathlib.Omega.{arith}
use lib.Dec.{ltb}
use lib.Pow.{pow_mono}
use borrow.Author.Tests.{ltb-true, ltb-false, lt-ltb, le-ltb}
use Rattle.model.specs.Frame.{Frame, bounds_ok}
use Rattle.model.specs.Forms.{Request}
use Rattle.model.specs.Calls.{bad_range}
use Rattle.laws.proofs.Choices.{split}
use Rattle.theory.proofs.Ranges.{good_range}
use Rattle.laws.proofs.FrameNumbers.{bounds}
use Rattle.types.specs.Range.{Fair}
use Rattle.types.specs.Views.{request_of}
use Rattle.types.specs.declared.Request as code

-- end - start < size, where start is no more than end, says end < start + size
pub no_wrap : (e s n : ℕ) → s ≤ e → ltb (e - s) n ≡ ltb e (s + n)
no_wrap e s n h =
    split (ltb e (s + n))
    (λ z. let u : e < s + n = ltb-true e (s + n) z in lt-ltb (e - s) n (omega arith) ∙ sym z)
    (λ z. let u : s + n ≤ e = ltb-false e (s + n) z in le-ltb (e - s) n (omega arith) ∙ sym z)

-- the end of a good range is no more than the widest address space's
pub range_ends : (F : Frame) (q : Request) → F.layout.max_paw ≤ 34 → bounds_ok F ≡ true → bad_range F q ≡ false → q.start + q.size ≤ 2 ^ 34
range_ends F q wide h g =
    let b = bounds F h in
    omega (arith, (good_range F q g).ends, pow_mono {i = F.paw} {j = 34} (omega (arith, b.paw_high_lem)))

-- and so is the end of the lent pages
pub lent_ends : (F : Frame) → F.layout.max_paw ≤ 34 → bounds_ok F ≡ true → F.first + F.pages ≤ 2 ^ 22
lent_ends F wide h =
    let b = bounds F h in
    omega (arith, b.room, pow_mono {i = F.paw - 12} {j = 22} (omega (arith, b.paw_high_lem)))

-- the code's request, where it is a good one
pub fair_of : (F : Frame) (q : code.Request) → F.layout.max_paw ≤ 56 → bounds_ok F ≡ true → bad_range F (request_of q) ≡ false → q.permission < 4 → Fair q
fair_of F q wide h g low =
    let r = good_range F (request_of q) g in
    record {
      small = low;
      starts = r.start_page;
      whole = r.size_page;
      some = r.some;
      ends = omega (arith, r.ends, pow_mono {i = F.paw} {j = 56} (omega (arith, (bounds F h).paw_high_lem)));
    }
