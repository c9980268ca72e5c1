-- The numbers of document 01: what both boards share, and what differs between them.
use Rattle.std.specs.Prelude.{ℕ, ◌/◌, ◌^◌}

-- ---- the same on every board

-- "whole pages of 4,096 bytes"
abbrev pub page_bytes : ℕ
page_bytes = 4096

-- "One entry speaks for 32 MiB, called a block": 8,192 pages
abbrev pub block_pages : ℕ
block_pages = 8192

-- a GiB, in bytes, in blocks and in pages: "a GiB of one permission is 32 entries"
abbrev pub gib_bytes : ℕ
gib_bytes = 2 ^ 30

abbrev pub gib_blocks : ℕ
gib_blocks = 32

abbrev pub gib_pages : ℕ
gib_pages = 262144

-- "PAW (30 to 34)"
abbrev pub min_paw : ℕ
min_paw = 30

-- "lent table memory of 2 to 256 whole pages"
abbrev pub min_pages : ℕ
min_pages = 2

-- "eight slots"
abbrev pub slot_count : ℕ
slot_count = 8

-- an SDID has six bits, so it is 63 at the most
abbrev pub max_sdid : ℕ
max_sdid = 63

-- ---- what differs

pub record Layout : Type 0 where
  -- bits of INFO in an L2 entry, and of PPN in a register
  pub info_bits : ℕ
  -- bits of WPRI in a register
  pub wpri_bits : ℕ
  -- entries of a page
  pub words : ℕ
  -- fields of an L1 entry, of four bits each
  pub fields : ℕ
  -- pieces of a block, and the TYPE of an L2 entry that holds a permission for each
  pub pieces : ℕ
  pub piece_type : ℕ
  -- the frame's upper bounds: PAW, and lent pages
  pub max_paw : ℕ
  pub max_pages : ℕ

-- RV64, mode Smmpt46: entries of 8 bytes, pieces of 2 MiB
abbrev pub rv64 : Layout
rv64 = record { info_bits = 44; wpri_bits = 10; words = 512; fields = 16; pieces = 16; piece_type = 6; max_paw = 34; max_pages = 256 }

-- RV32, mode Smmpt34: entries of 4 bytes, pieces of 4 MiB (document 02, item 5)
abbrev pub rv32 : Layout
rv32 = record { info_bits = 22; wpri_bits = 2; words = 1024; fields = 8; pieces = 8; piece_type = 5; max_paw = 34; max_pages = 256 }

-- pages of a piece: 512 on RV64, which are 2 MiB
abbrev pub piece_pages : Layout → ℕ
piece_pages L = block_pages / L.pieces
