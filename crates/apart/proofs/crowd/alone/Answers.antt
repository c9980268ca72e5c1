-- `apart::crowd::alone` meets its contract: no bit of a piece is set in what is open to the others.
use borrow.Author.Tests.{eqb-true}
use Rattle.sharing.proofs.MaskLaws.{none_once}
use Rattle.table.specs.Board.{EACH-PIECE}
use Rattle.apart.proofs.EachBits.{piece_low}
use Rattle.apart.proofs.crowd.alone.Goals as goal

pub returns-then-count-eq1 : goal.returns-then-count-eq1
returns-then-count-eq1 c = λ h. (c.if-count-eq1.true, λ j n d u x. none_once c.args.even EACH-PIECE _ n d (eqb-true _ 0 h) (piece_low j u) x)
