-- `entries::rows::flat_entries` meets its contract: where every entry of a GiB changes, the stores of those that change are the stores of all.
use mathlib.Core.Path.{◌≡◌, sym, ap, ◌∙◌}
use mathlib.Core.List.{List}
use Prim.Native.Nat.{ℕ}
use native.Mathlib.Omega.{arith}
use borrow.Author.Rules.{rules}
use Rattle.model.specs.Stores.{Store}
use Rattle.shapes.specs.Run.{run}
use Rattle.shapes.specs.Ahead.{Ahead}
use Rattle.shapes.specs.Rows.{row_stores, fill_stores}
use Rattle.shapes.proofs.Order.{ahead_of}
use Rattle.shapes.proofs.RowLaws.{row_fills}
use Rattle.entries.proofs.rows.flat_entries.Goals as goal

pub fill-requires : goal.fill-requires
fill-requires c =
    let a = c.args in
    let m = a.words.now in
    let z : a.n ≡ 32 = omega arith in
    let next : Ahead m (fill_stores a.word 32 a.at)
    = ahead_of (ap (λ (n : ℕ). row_stores m (λ w. a.word) n a.at) z ∙ row_fills m a.word 32 a.at (sym c.all_differ.ensures ∙ c.if-not-all_differ.false)) c.requires.1 in
    search rules

pub returns : goal.returns
returns c =
    let a = c.args in
    let m = a.words.now in
    let z : 32 ≡ a.n = omega arith in
    c.fill.ensures
    ∙ ap (λ (l : List Store). run a.left l m) (sym (row_fills m a.word 32 a.at (sym c.all_differ.ensures ∙ c.if-not-all_differ.false)))
    ∙ ap (λ (n : ℕ). run a.left (row_stores m (λ w. a.word) n a.at) m) z
