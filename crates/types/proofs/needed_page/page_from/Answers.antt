-- `types::needed_page::page_from` meets its contract: place by place of the list.
use mathlib.Core.Path.{◌≡◌, refl}
use mathlib.Core.List.{[], head_d}
use Prim.Native.Nat.{ℕ, zero, suc, ◌<◌}
use native.Mathlib.Omega.{arith}
use lib.ListN.{drop}
use Rattle.std.specs.Prelude.{Option, Some, None}
use Rattle.std.specs.Option.{unwrap_or, option_and}
use Rattle.std.proofs.Math.Seq.{drop-nil}
use Rattle.types.specs.Views.{page_before}
use Rattle.types.specs.declared.PageNumber.{PageNumber}
use Rattle.types.proofs.needed_page.page_from.Goals as goal
use Rattle.types.proofs.needed_page.page_from.Goals.{in-0, in-1, in_default}

abbrev number : Option PageNumber → ℕ
number page = (unwrap_or page (record { 0 = 0 })).0

abbrev listed : Option PageNumber → Option PageNumber → ℕ → ℕ
listed first second n = head_d (drop n (page_before first (page_before second []))) 0

first_page : (first second : Option PageNumber) → number first ≡ listed first second 0
unfolding head_d
first_page None second = refl
first_page (Some x) second = refl

second_page : (first second : Option PageNumber) → number (option_and first second) ≡ listed first second 1
unfolding head_d
second_page None second = refl
second_page (Some x) None = refl
second_page (Some x) (Some y) = refl

no_page : (first second : Option PageNumber) (n : ℕ) → 1 < n → 0 ≡ listed first second n
unfolding head_d
no_page first second zero h = absurd (omega arith)
no_page first second (suc zero) h = absurd (omega arith)
no_page None second (suc (suc n)) h = refl
no_page (Some x) None (suc (suc n)) h = refl
no_page (Some x) (Some y) (suc (suc n)) h = rw (drop-nil {A = ℕ} n)

pub returns : goal.returns
returns c =
    let free = c.args.free in
    elim c.match-next.branch [
      | in-0 w ↦ rw (c.unwrap_or.ensures, w.page-is, w.in-0.is) (first_page free.first free.second)
      | in-1 w ↦ rw (c.unwrap_or.ensures, w.page-is, w.and-page.ensures, w.in-1.is) (second_page free.first free.second)
      | in_default w ↦ rw (c.unwrap_or.ensures, w.page-is) (no_page free.first free.second c.args.next (omega (arith, w.in_default)))
    ]
