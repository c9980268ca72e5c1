-- `apart::crowd::in_shares` meets its contract: what was gathered says which pages are crowded.
use mathlib.Core.Path.{sym, ◌∙◌}
use Prim.Native.Nat.{◌*◌, ◌/◌, ◌<◌}
use native.Mathlib.Omega.{arith}
use Rattle.model.specs.Layout.{block_pages}
use Rattle.sharing.proofs.CrowdLaws.{full_first, crowd_gathered, crowd_even, crowd_alone}
use Rattle.sharing.proofs.FirstLaws.{none_at_all, found_there}
use Rattle.table.specs.Board.{board, PIECES, PIECE-PAGES, frame_of}
use Rattle.types.specs.Views.{strength_of}
use Rattle.apart.proofs.crowd.in_shares.Goals as goal

pub returns-then-shares-eq0 : goal.returns-then-shares-eq0
returns-then-shares-eq0 c =
    let a = c.args in
    let h = c.requires.2 in
    found_there _ _ (a.b * block_pages) block_pages _
    (λ k u. crowd_even (frame_of a.f a.words.now) a.words.now a.slots (strength_of a.s) a.b a.shares h c.if-shares-eq0.true k u)
    (c.in_pieces.ensures h.opened h.reached h.even)

pub returns-then-alone : goal.returns-then-alone
returns-then-alone c =
    let a = c.args in
    let h = c.requires.2 in
    let one = c.alone.ensures c.if-alone.true in
    none_at_all _ (a.b * block_pages) block_pages
    (crowd_alone (frame_of a.f a.words.now) a.words.now a.slots (strength_of a.s) a.b a.shares h one.0
    (λ q u. let low : q / PIECE-PAGES < PIECES = omega arith in one.1 (q / PIECE-PAGES) _ _ low (h.even (q / PIECE-PAGES) low)))

pub returns : goal.returns
returns c =
    let a = c.args in
    let m = a.words.now in
    let s = strength_of a.s in
    let r = a.shares in
    let h = c.requires.2 in
    found_there _ _ (a.b * block_pages) block_pages _
    (λ k u. crowd_gathered (frame_of a.f m) m a.slots s a.b r h k u ∙ sym (full_first board m r.tables s r.count _ _ k (omega (arith, h.size, h.few))))
    (c.in_tables.ensures h.opened h.reached h.even)
