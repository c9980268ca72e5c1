-- The layout of this board is one that the laws of entries and blocks speak of.
use mathlib.Core.Path.{refl}
use native.Mathlib.Omega.{arith}
use Rattle.table.specs.Board.{board}
use Rattle.range.proofs.Lawful.{board_lawful}
use Rattle.shapes.proofs.Shape.{Shape}

pub board_shape : Shape board
board_shape = record { lawful = board_lawful; rows = refl; wide = omega arith }
