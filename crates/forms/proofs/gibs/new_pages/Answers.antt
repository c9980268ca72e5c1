-- `forms::gibs::new_pages` meets its contract: a range of whole pieces takes none, and any other only at its two ends.
use mathlib.Core.Path.{sym, ap₂, ◌∙◌}
use Prim.Native.Nat.{ℕ, ◌+◌}
use native.Mathlib.Omega.{arith}
use borrow.Author.Tests.{eqb-true}
use Rattle.laws.proofs.Choices.{and_true}
use Rattle.forms.proofs.BoardShape.{board_shape}
use Rattle.shapes.proofs.CountLaws.{low_inside, high_inside, count_none, count_one, count_two, one_at_most}
use Rattle.forms.proofs.gibs.new_pages.Goals as goal

pub returns-then-whole_pieces : goal.returns-then-whole_pieces
returns-then-whole_pieces c =
    let w = and_true _ _ (sym c.whole_pieces.ensures ∙ c.if-whole_pieces.true) in
    (count_none board_shape c.requires (eqb-true _ _ w.0) (eqb-true _ _ w.1), omega arith)

pub block_new_pages-at_low-requires : goal.block_new_pages-at_low-requires
block_new_pages-at_low-requires c = (c.requires.rooted, low_inside board_shape c.requires)

pub returns-then-low-high : goal.returns-then-low-high
returns-then-low-high c =
    (c.block_new_pages-at_low.ensures ∙ count_one board_shape c.requires c.if-low-high.true, omega (arith, one_at_most board_shape c.requires _ _ c.block_new_pages-at_low.ensures))

pub block_new_pages-requires : goal.block_new_pages-requires
block_new_pages-requires c = (c.requires.rooted, high_inside board_shape c.requires)

pub returns : goal.returns
returns c = (
  ap₂ (λ (x y : ℕ). x + y) c.block_new_pages-at_low.ensures c.block_new_pages.ensures
      ∙ count_two board_shape c.requires c.if-low-high.false,
  -- a block takes one page at the most
  omega (arith, one_at_most board_shape c.requires _ _ c.block_new_pages-at_low.ensures, one_at_most board_shape c.requires _ _ c.block_new_pages.ensures),
)
