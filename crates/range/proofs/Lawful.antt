-- The layout of this board is lawful: a test of its numbers.
use mathlib.Core.Path.{refl}
use Rattle.theory.proofs.Entries.{Lawful, numbers_fit, lawful}
use Rattle.table.specs.Board.{board}

pub board_lawful : Lawful board
unfolding numbers_fit
board_lawful = lawful board refl
