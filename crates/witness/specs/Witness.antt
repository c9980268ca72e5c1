-- Two domains on a board of seven pages: page 0 is rw to the first, page 1 rw to the second, page 2 rx to both where they share; pages 16 to 19
-- are lent.
use Rattle.std.specs.Prelude.{List, [], ◌∷◌, ◌++◌, ℕ, ◌+◌, ◌*◌, ◌-◌, replicate, set}
use Rattle.model.specs.Numbers.{joined}
use Rattle.model.specs.Layout.{rv64, page_bytes}
use Rattle.model.specs.Bytes.{byte_at}
use Rattle.model.specs.Frame.{Frame}
use Rattle.model.specs.Access.{fault}
use Rattle.model.specs.Sound.{Slot, empty_slot}
use Rattle.model.specs.Apart.{Strength, strict, sharing}
use Rattle.isolation.specs.Board.{Page, Board}
use Rattle.isolation.specs.Run.{Action, loads, fetches, stores, Output, byte, stored, denied}

abbrev pub F : Frame
F = record { layout = rv64; paw = 30; first = 16; pages = 4 }

-- SDIDs 5 and 6, roots 16 and 17
abbrev pub r0 : ℕ
r0 = 0x1140000000000010

abbrev pub r1 : ℕ
r1 = 0x1180000000000011

unfoldable pub slots : List Slot
slots = r0 ∷ r1 ∷ replicate 6 empty_slot

-- the first entries of the two L1 pages
unfoldable pub fields0 : Strength → ℕ
fields0 strict = 0x002
fields0 sharing = 0x102

unfoldable pub fields1 : Strength → ℕ
fields1 strict = 0x020
fields1 sharing = 0x120

-- the table: a root whose entry 0 names page 18, another whose entry 0 names page 19, and these
unfoldable pub words : Strength → List ℕ
words s = set (set (set (set (replicate 2048 0) 0 0x0000400000000012) 512 0x0000400000000013) 1024 (fields0 s)) 1536 (fields1 s)

-- the pages that are not lent, each full of one byte: v is that of the second domain's
unfoldable pub others : ℕ → List Page
others v =
    record { number = 0; bytes = replicate 4096 7 }
    ∷ record { number = 1; bytes = replicate 4096 v }
    ∷ record { number = 2; bytes = replicate 4096 9 }
    ∷ []

-- a table as bytes, and pages beside it
unfoldable pub table_bytes : List ℕ → ℕ → List ℕ
table_bytes m p = joined (λ o. byte_at rv64 m ((p - 16) * page_bytes + o) ∷ []) 4096 0

unfoldable pub board_for : List ℕ → List Page → Board
board_for m rest = joined (λ p. record { number = p; bytes = table_bytes m p } ∷ []) 4 16 ++ rest

abbrev pub board : Strength → ℕ → Board
board s v = board_for (words s) (others v)

-- a run: the first domain loads its byte; the second stores one of its own; the first tries to store over it and to load it; the second loads
-- it; the first loads its own again, and fetches from page 2
unfoldable pub actions : List Action
actions =
    record { by = r0; address = 0x0; operation = loads }
    ∷ record { by = r1; address = 0x1000; operation = stores 42 }
    ∷ record { by = r0; address = 0x1000; operation = stores 1 }
    ∷ record { by = r0; address = 0x1000; operation = loads }
    ∷ record { by = r1; address = 0x1000; operation = loads }
    ∷ record { by = r0; address = 0x0; operation = loads }
    ∷ record { by = r0; address = 0x2000; operation = fetches }
    ∷ []

-- the fetch
unfoldable pub fetched : Strength → Output
fetched strict = denied (fault 1)
fetched sharing = byte 9

-- what it gives them: the store of the second is made and does not show; the two accesses that are denied fault and change nothing
unfoldable pub given0 : Strength → List Output
given0 s = byte 7 ∷ denied (fault 7) ∷ denied (fault 5) ∷ byte 7 ∷ fetched s ∷ []

unfoldable pub given1 : List Output
given1 = stored ∷ byte 42 ∷ []
