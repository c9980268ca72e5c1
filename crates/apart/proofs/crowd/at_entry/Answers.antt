-- `apart::crowd::at_entry` meets its contract: the invariant: after t of the L1 pages, what the first t of them say is counted.
use mathlib.Core.Path.{◌≡◌, sym, ap, ap₂, ◌∙◌, subst}
use mathlib.Core.Bool.{Bool}
use Prim.Native.Nat.{ℕ, ◌+◌, ◌*◌, ◌/◌, ◌%◌, ◌<◌}
use native.Mathlib.Nat.{add-zero}
use native.Mathlib.Omega.{arith}
use lib.ListN.{length, get_or}
use Rattle.sharing.specs.Crowds.{table_opens, table_reaches, entry_for}
use Rattle.sharing.specs.Masks.{open_bit, reach_bit, one, Counted}
use Rattle.sharing.proofs.MaskLaws.{table_more}
use Rattle.table.specs.Board.{board, FIELDS}
use Rattle.types.specs.Views.{strength_of}
use Rattle.apart.proofs.crowd.at_entry.Goals as goal
use Rattle.apart.proofs.crowd.at_entry.Goals.{After-add-all}

-- after one more, at field i
more : (c : After-add-all) → let a = c.args in
    (i n d : ℕ) → i < FIELDS → Counted a.base (4 * i) n d
    → Counted c.add-all.result (4 * i) (n + table_opens board a.words.now a.tables.now (c.loop-at.at-index + 1) (a.k * FIELDS + i))
    (d + table_reaches board a.words.now a.tables.now (strength_of a.s) (c.loop-at.at-index + 1) (a.k * FIELDS + i))
more c i n d u h =
    let a = c.args in
    let m = a.words.now in
    let q : ℕ = a.k * FIELDS + i in
    let t : ℕ = c.loop-at.at-index in
    let place : 4 * (q % FIELDS) ≡ 4 * i = omega arith in
    let row : q / FIELDS ≡ a.k = omega arith in
    let word : c.wide.result ≡ entry_for board m a.tables.now t q = c.wide.ensures.0 ∙ ap (λ (x : ℕ). get_or m (get_or a.tables.now t 0 + x) 0) (sym row) in
    let one-o = ap₂ (λ (x y : ℕ). open_bit x y) word (sym place) in
    let one-r = ap₂ (λ (x y : ℕ). reach_bit (strength_of a.s) x y) word (sym place) in
    subst (λ (x : ℕ). Counted c.add-all.result (4 * i) x (d + table_reaches board m a.tables.now (strength_of a.s) (t + 1) q))
    (ap (λ (x : Bool). n + table_opens board m a.tables.now t q + one x) one-o ∙ table_more (λ t'. open_bit (entry_for board m a.tables.now t' q) (4 * (q % FIELDS))) n t)
    (subst (Counted c.add-all.result (4 * i) (n + table_opens board m a.tables.now t q + one (open_bit c.wide.result (4 * i))))
    (ap (λ (x : Bool). d + table_reaches board m a.tables.now (strength_of a.s) t q + one x) one-r ∙ table_more (λ t'. reach_bit (strength_of a.s) (entry_for board m a.tables.now t' q) (4 * (q % FIELDS))) d t)
    (c.add-all.ensures (4 * i) _ _ (c.loop-at.invariant i n d u h)))

pub loop-at-init : goal.loop-at-init
unfolding Rattle.laws.proofs.Sums.sum
loop-at-init c = λ i n d u h. let base = c.args.base in subst (λ (x : ℕ). Counted base (4 * i) x (d + 0)) (sym (add-zero n)) (subst (Counted base (4 * i) n) (sym (add-zero d)) h)

pub loop-at-preserved : goal.loop-at-preserved
loop-at-preserved c = more c

pub returns : goal.returns
returns c = let e : c.loop-at.at-index ≡ length c.args.tables.now = omega arith in rw e at c.loop-at.invariant
