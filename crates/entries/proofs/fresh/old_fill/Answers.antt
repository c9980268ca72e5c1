-- `entries::fresh::old_fill` meets its contract: each entry of the run, outside the range, stays the one word, so a fill makes the run's stores.
use mathlib.Core.Path.{◌≡◌, sym, ap, ◌∙◌, subst}
use mathlib.Core.List.{List}
use Prim.Native.Nat.{ℕ, ◌+◌, ◌-◌, ◌≤◌, ◌<◌}
use native.Mathlib.Omega.{arith}
use borrow.Author.Rules.{rules}
use Rattle.model.specs.Forms.{l1_word}
use Rattle.model.specs.Stores.{Store}
use Rattle.types.specs.Views.{entry_of, request_of}
use Rattle.forms.proofs.BoardShape.{board_shape}
use Rattle.shapes.specs.Words.{old_word}
use Rattle.shapes.proofs.EntryLaws.{word_outside}
use Rattle.table.specs.Board.{ENTRY-VALUES, frame_of}
use Rattle.shapes.specs.Rows.{fill_stores}
use Rattle.shapes.specs.Run.{run}
use Rattle.shapes.specs.Ahead.{Ahead}
use Rattle.shapes.specs.Pages.{new_run}
use Rattle.shapes.proofs.PageLaws.{fill_run}
use Rattle.shapes.proofs.Order.{ahead_of}
use Rattle.shapes.proofs.Places.{place}
use Rattle.entries.proofs.fresh.old_fill.Goals as goal
use Rattle.entries.proofs.fresh.old_fill.Goals.{After-page_at}

-- the word is that of every entry of the run
word_of : (c : After-page_at) → let a = c.args in
    (k : ℕ) → a.from ≤ k → k < a.to → c.old_word-word.result ≡ l1_word (frame_of a.edit.f a.words.now) a.words.now (request_of a.edit.q) (entry_of a.new.block.e) a.new.block.b k
word_of c k lo hi =
    let a = c.args in
    let m = a.words.now in
    let same : c.old_word-word.result ≡ old_word (frame_of a.edit.f m) m (entry_of a.new.block.e) k = c.old_word-word.ensures ∙ sym (c.requires.5 k lo hi) in
    same
    ∙ word_outside (frame_of a.edit.f m) board_shape m (request_of a.edit.q) c.args.edit.fair.small (entry_of a.new.block.e) c.requires.2 a.new.block.b k (omega (arith, c.requires.0))
    (subst (λ (w : ℕ). w < ENTRY-VALUES) same (omega arith))
    (λ j l h. c.requires.4 j (omega arith) (omega arith))

-- so a fill makes the stores of the run
same_stores : (p : After-page_at) → let a = p.args in
    fill_stores p.old_word-word.result (a.to - a.from) (p.page_at.result + a.from) ≡ new_run (frame_of a.edit.f a.words.now) a.words.now (request_of a.edit.q) (entry_of a.new.block.e) a.new.block.b a.new.page.0 (a.to - a.from) a.from
same_stores p =
    let a = p.args in
    let m = a.words.now in
    let F = frame_of a.edit.f m in
    let n = a.to - a.from in
    ap (fill_stores p.old_word-word.result n) (place F a.new.page.0 a.from p.page_at.result p.page_at.ensures.0)
    ∙ fill_run F m (request_of a.edit.q) (entry_of a.new.block.e) a.new.block.b a.new.page.0 p.old_word-word.result n a.from (λ k lo hi. word_of p k lo (omega (arith, p.requires.1)))

pub fill-requires : goal.fill-requires
fill-requires c =
    let a = c.args in
    let next : Ahead a.words.now (fill_stores c.old_word-word.result (a.to - a.from) (c.page_at.result + a.from)) = ahead_of (sym (same_stores (goal.at.fill-requires c).After-page_at)) c.requires.6 in
    search rules

pub returns : goal.returns
returns c =
    let a = c.args in
    c.fill.ensures ∙ ap (λ (ss : List Store). run a.left ss a.words.now) (same_stores (goal.at.returns c).After-page_at)
