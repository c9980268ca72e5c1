-- The layout of this crate's board, and a frame of it.
use Rattle.std.specs.Prelude.{List, ℕ, ◌*◌, ◌/◌, ◌-◌, ◌^◌, length}
use Rattle.model.specs.Layout.{Layout, page_bytes, piece_pages, rv64}
use Rattle.model.specs.Frame as frame
use Rattle.types.specs.declared.Frame.{Frame}

abbrev pub board : Layout
board = rv64

-- its numbers, by the names of board.rt: entries of a page, fields of an entry, pieces of a block, pages of a piece, entries of a piece
abbrev pub PAGE-WORDS : ℕ
PAGE-WORDS = board.words

abbrev pub FIELDS : ℕ
FIELDS = board.fields

abbrev pub PIECES : ℕ
PIECES = board.pieces

abbrev pub PIECE-PAGES : ℕ
PIECE-PAGES = piece_pages board

abbrev pub PIECE-BYTES : ℕ
PIECE-BYTES = piece_pages board * page_bytes

abbrev pub PIECE-WORDS : ℕ
PIECE-WORDS = board.words / board.pieces

-- blocks of the widest address space
abbrev pub MAX-BLOCKS : ℕ
MAX-BLOCKS = 2 ^ (board.max_paw - 25)

-- an entry is below this, and the INFO of a block by pieces below that
abbrev pub ENTRY-VALUES : ℕ
ENTRY-VALUES = 16 ^ board.fields

abbrev pub PIECE-INFO : ℕ
PIECE-INFO = 4 ^ board.pieces

-- where TYPE begins
abbrev pub TYPE-UNIT : ℕ
TYPE-UNIT = 2 ^ board.info_bits

-- the entry by pieces whose INFO is zero
abbrev pub PIECE-ENTRY : ℕ
PIECE-ENTRY = board.piece_type * 2 ^ board.info_bits

-- 1 in each field, and in each piece
abbrev pub EACH-FIELD : ℕ
EACH-FIELD = 0x1111_1111_1111_1111

abbrev pub EACH-PIECE : ℕ
EACH-PIECE = 0x5555_5555

-- a frame of this board: from its numbers; beside n lent words; and beside the words themselves
abbrev pub board_frame : ℕ → ℕ → ℕ → frame.Frame
board_frame paw first pages = record { layout = board; paw = paw; first = first; pages = pages }

abbrev pub frame_over : Frame → ℕ → frame.Frame
frame_over f n = board_frame f.paw f.first.0 (n / board.words)

abbrev pub frame_of : Frame → List ℕ → frame.Frame
frame_of f m = frame_over f (length m)
