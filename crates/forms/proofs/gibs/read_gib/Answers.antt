-- `forms::gibs::read_gib` meets its contract: a page of the range and a first page of another permission make it mixed.
use mathlib.Core.Path.{◌≡◌, sym, ◌∙◌}
use Rattle.table.specs.Board.{frame_of}
use Rattle.shapes.proofs.GibLaws.{first_of, mixed_gib}
use Rattle.model.specs.Forms.{gib_first}
use Rattle.types.specs.Views.{request_of}
use Rattle.forms.proofs.gibs.read_gib.Goals as goal
use Rattle.forms.proofs.gibs.read_gib.Goals.{After-piece_first-p}

-- the permission of the GiB's first page
first_is : (c : After-piece_first-p) → let a = c.args in c.piece_first-p.result ≡ gib_first (frame_of a.edit.f a.words.now) a.words.now (request_of a.edit.q) a.edit.root.0 a.g
first_is c =
    (rw c.entry_at-e.ensures.0 at c.piece_first-p.ensures.0) ∙ first_of _ _ _ _ c.args.g

pub returns-then-meets : goal.returns-then-meets
returns-then-meets c =
    (first_is (goal.at.returns-then-meets c).After-piece_first-p, sym (mixed_gib _ _ _ _ _ _ c.if-p-edit.true (rw c.if-meets.true at c.meets.ensures)), c.piece_first-p.ensures.1)

pub returns-then-blocks_are : goal.returns-then-blocks_are
returns-then-blocks_are c =
    (first_is (goal.at.returns-then-blocks_are c).After-piece_first-p, sym c.blocks_are.ensures ∙ c.if-blocks_are.true, c.piece_first-p.ensures.1)

pub returns : goal.returns
returns c = (first_is (goal.at.returns c).After-piece_first-p, sym c.blocks_are.ensures ∙ c.if-blocks_are.false, c.piece_first-p.ensures.1)
