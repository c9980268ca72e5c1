-- The bounds that a leaf's result keeps, beside its equation with the model.
use Rattle.std.specs.Prelude.{◌<◌, ◌^◌}
use Rattle.model.specs.Entry.{Entry, flat, pieces, table, invalid}
use Rattle.table.specs.Board.{board}

-- the numbers in an entry that a word says: two bits of permission, two for each piece, and the bits of a page number
abbrev pub Small : Entry → Type 0
Small (flat p) = p < 4
Small (pieces info) = info < 4 ^ board.pieces
Small (table page) = page < 2 ^ board.info_bits
Small invalid = Unit {0}
