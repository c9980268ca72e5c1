-- `sound::register` meets its contract: the tests come in the order of the definition.
use mathlib.Core.Path.{◌≡◌}
use borrow.Author.Tests.{eq-eqb, ne_eqb}
use Rattle.model.specs.Register.{mode_of, wpri_of}
use Rattle.model.specs.Sound.{is_open}
use Rattle.table.specs.Board.{board}
use Rattle.scan.specs.Scan.{register_step, take_mark}
use Rattle.sound.proofs.register.Goals as goal
use Rattle.sound.proofs.register.Goals.{After-mode, After-wpri}

mode_is : (c : After-mode) → c.mode.result ≡ mode_of board c.args.r
mode_is c = c.mode.ensures.0

wpri_is : (c : After-wpri) → c.wpri.result ≡ wpri_of board c.args.r
wpri_is c = c.wpri.ensures.0

pub returns-then-r-eq0 : goal.returns-then-r-eq0
unfolding register_step is_open
returns-then-r-eq0 c = rw (eq-eqb _ _ c.if-r-eq0.true)

pub returns-then-mode-ne1 : goal.returns-then-mode-ne1
unfolding register_step is_open
returns-then-mode-ne1 c = rw (ne_eqb _ _ c.if-r-eq0.false, ← mode_is (goal.at.returns-then-mode-ne1 c).After-mode, ne_eqb _ _ c.if-mode-ne1.true)

pub returns-then-wpri-ne0 : goal.returns-then-wpri-ne0
unfolding register_step is_open
returns-then-wpri-ne0 c = rw (ne_eqb _ _ c.if-r-eq0.false, ← mode_is (goal.at.returns-then-wpri-ne0 c).After-mode, eq-eqb _ _ c.if-mode-ne1.false, ← wpri_is (goal.at.returns-then-wpri-ne0 c).After-wpri, ne_eqb _ _ c.if-wpri-ne0.true)

pub returns : goal.returns
unfolding register_step take_mark is_open
returns c = rw (
  ne_eqb _ _ c.if-r-eq0.false,
  ← mode_is (goal.at.returns c).After-mode,
  eq-eqb _ _ c.if-mode-ne1.false,
  ← wpri_is (goal.at.returns c).After-wpri,
  eq-eqb _ _ c.if-wpri-ne0.false,
  ← c.sdid.ensures.0,
  c.take.ensures.0,
  c.take.ensures.1,
)
