-- `slots::open_at` meets its contract: the page is zeroed word by word, and the register is put together from its fields.
use mathlib.Core.List.{List}
use mathlib.Core.Path.{sym, ap, ap₂, ◌∙◌}
use Prim.Native.Nat.{ℕ}
use native.Mathlib.Omega.{arith}
use lib.ListN.{set}
use Rattle.model.specs.Fence.{no_fence}
use Rattle.model.specs.Calls as calls
use Rattle.laws.proofs.FrameNumbers.{bounds, lent_in, few_pages}
use Rattle.slots.specs.ZeroPage.{zeroed}
use Rattle.slots.proofs.Refusals.{opened_at}
use Rattle.slots.proofs.open_at.Goals as goal

pub new-requires : goal.new-requires
new-requires c = let p = c.requires in
    let b = bounds _ p.0 in
    let l = lent_in _ _ p.1 in
    (p.3, omega (arith, few_pages _ b.paw_high_lem))

pub returns : goal.returns
returns c = let a = c.args in
    let m = a.words.now in
    ap₂ (λ (mem : List ℕ) (reg : ℕ). record { reply = calls.opened; memory = mem; slots = set a.slots a.slot reg; fence = no_fence })
    (c.zero_page.ensures ∙ ap (zeroed m) c.page_at.ensures.0) c.new.ensures
    ∙ sym (opened_at a.f m a.slots a.slot a.sdid.0 a.root.0)
