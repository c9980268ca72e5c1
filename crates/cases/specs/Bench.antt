-- The bench, the domains and the edits that the cases speak of.
use Rattle.std.specs.Prelude.{List, [], ◌∷◌, map, ℕ, ◌+◌, get_or, length, replicate, set}
use Rattle.std.proofs.lemmas.List.Edits.{sets}
use Rattle.model.specs.Layout.{rv64}
use Rattle.model.specs.Frame.{Frame, word_at}
use Rattle.model.specs.Bytes.{byte_at}
use Rattle.model.specs.Access.{Kind, Answer}
use Rattle.model.specs.Lookup.{supervisor, lookup}
use Rattle.model.specs.Sound.{empty_slot, roots, free_pages}
use Rattle.model.specs.Forms.{Request}
use Rattle.model.specs.Fence.{no_fence}
use Rattle.model.specs.Calls.{Outcome, opened, open_slot, close_slot, edit_slot, store_list}

-- ---- the board: "PAW 32, 16 pages from page 0x80000"; one of two pages for case K; one whose frame breaks its bounds, since page 0 is lent

abbrev pub bench : Frame
bench = record { layout = rv64; paw = 32; first = 0x80000; pages = 16 }

abbrev pub small_bench : Frame
small_bench = record { layout = rv64; paw = 32; first = 0x80000; pages = 2 }

abbrev pub bad_bench : Frame
bad_bench = record { layout = rv64; paw = 32; first = 0; pages = 16 }

-- ---- what is asked

abbrev pub none : ℕ
none = 0

abbrev pub rx : ℕ
rx = 1

abbrev pub read_write : ℕ
read_write = 2

abbrev pub rwx : ℕ
rwx = 3

-- an edit of a slot; of slot 0
abbrev pub ask_of : ℕ → ℕ → ℕ → ℕ → Request
ask_of slot start size permission = record { slot = slot; start = start; size = size; permission = permission }

abbrev pub ask : ℕ → ℕ → ℕ → Request
ask start size permission = ask_of 0 start size permission

-- a limit that lets every edit finish
abbrev pub most : ℕ
most = 1536

module _ (F : Frame) where
  abbrev pub opens : Outcome → ℕ → ℕ → Outcome
  opens o s sdid = open_slot F o.memory o.slots s sdid

  abbrev pub edits : Outcome → Request → ℕ → Outcome
  edits o q limit = edit_slot F o.memory o.slots q limit

  abbrev pub closes_on : Outcome → ℕ → Outcome
  closes_on o s = close_slot F o.memory o.slots s

  -- a lookup by a register, outside M mode
  abbrev pub look_by : ℕ → Outcome → ℕ → Kind → Answer
  look_by r o address kind = lookup F o.memory r supervisor address kind

abbrev pub closes : Outcome → ℕ → Outcome
closes = closes_on bench

-- by slot 0's register
abbrev pub look : Outcome → ℕ → Kind → Answer
look o = look_by bench (get_or o.slots 0 0) o

-- the register of slot s, L2 entry b of slot 0's root, entry i of its first L1 page
abbrev pub register_at : Outcome → ℕ → ℕ
register_at o s = get_or o.slots s 0

abbrev pub l2 : Outcome → ℕ → ℕ
l2 o b = word_at bench o.memory 0x80000 b

abbrev pub l1 : Outcome → ℕ → ℕ
l1 o i = word_at bench o.memory 0x80001 i

-- the eight bytes of the lent memory from byte n on
abbrev pub eight_bytes : Outcome → ℕ → List ℕ
eight_bytes o n = map (λ i. byte_at rv64 o.memory (n + i)) (0 ∷ 1 ∷ 2 ∷ 3 ∷ 4 ∷ 5 ∷ 6 ∷ 7 ∷ [])

abbrev pub free_pages_of : Outcome → ℕ
free_pages_of o = length (free_pages bench o.memory (roots bench o.slots))

-- the words that the whole edit stores, in order
abbrev pub words_stored : Outcome → Request → List ℕ
words_stored o q = map (λ s. s.word) (store_list bench o.memory o.slots q)

-- ---- the states that the cases start from

-- memory of n words and slots, all zero
abbrev pub blank : ℕ → Outcome
blank n = record { reply = opened; memory = replicate n 0; slots = replicate 8 empty_slot; fence = no_fence }

-- a memory with a register in slot s; in slot 0
abbrev stands_in : ℕ → List ℕ → ℕ → Outcome
stands_in s m r = record { reply = opened; memory = m; slots = set (replicate 8 empty_slot) s r; fence = no_fence }

abbrev stands : List ℕ → ℕ → Outcome
stands m r = stands_in 0 m r

-- "slot 0 opened with SDID 5"
unfoldable pub new : Outcome
new = opens bench (blank 8192) 0 5

unfoldable pub after_c : Outcome
after_c = edits bench new (ask 0x40000000 0x1000 read_write) most

unfoldable pub after_f : Outcome
after_f = edits bench after_c (ask 0x40003000 0x1000 rx) most

unfoldable pub after_g : Outcome
after_g = edits bench after_c (ask 0x40000000 0x40000000 read_write) most

unfoldable pub after_h : Outcome
after_h = edits bench after_g (ask 0x40200000 0x200000 none) most

-- D: C with limits that cut it
unfoldable pub cut512 : Outcome
cut512 = edits bench new (ask 0x40000000 0x1000 read_write) 512

unfoldable pub cut513 : Outcome
cut513 = edits bench new (ask 0x40000000 0x1000 read_write) 513

-- K: on two pages
unfoldable pub small0 : Outcome
small0 = opens small_bench (blank 1024) 0 5

unfoldable pub small1 : Outcome
small1 = edits small_bench small0 (ask 0x40000000 0x1000 read_write) most

unfoldable pub small2 : Outcome
small2 = edits small_bench small1 (ask 0x40000000 0x1000 none) most

-- L: one page whose pn[1] is 5 and whose pn[0] is 9
unfoldable pub after_l : Outcome
after_l = edits bench new (ask 0x40059000 0x1000 read_write) most

-- M: a range across the GiB boundary at 0xC0000000: two whole pieces; two pages
unfoldable pub after_m : Outcome
after_m = edits bench new (ask 0xBFE00000 0x400000 read_write) most

unfoldable pub after_m2 : Outcome
after_m2 = edits bench new (ask 0xBFFFF000 0x2000 read_write) most

-- N: slot 1 opened with SDID 0
unfoldable pub with_zero : Outcome
with_zero = opens bench new 1 0

-- O: a table in unfinished form: GiB 1 is all rw, block 32 by an L1 page and the others by 1G types
unfoldable pub unfinished : Outcome
unfinished =
    stands (sets (set (sets (replicate 8192 0) 33 (replicate 31 0x0000200000000000)) 32 0x0000400000080001) 512 (replicate 512 0x2222222222222222)) 0x1140000000080000

unfoldable pub after_o : Outcome
after_o = edits bench unfinished (ask 0x40200000 0x200000 none) most

-- P: case C's table, but that INFO of L2 entry 32 has bit 32 set: page 0x100080001, which is not lent
unfoldable pub top_digit : Outcome
top_digit = stands (set (set (replicate 8192 0) 512 0x2) 32 0x0000400100080001) 0x1140000000080000

-- R: block 32 is rw, and a bit of WPRI is set in the register
unfoldable pub wpri_set : Outcome
wpri_set = stands (set (replicate 8192 0) 32 0x0000200000000000) 0x1140100000080000

-- S: PAW 32 has 128 blocks; L2 entry 128 breaks every rule, and L2 entry 129 would name page 0x80001
unfoldable pub past_the_blocks : Outcome
past_the_blocks = stands (set (set (replicate 8192 0) 128 0xFFFFFFFFFFFFFFFF) 129 0x0000400000080001) 0x1140000000080000

-- T: GiB 1 is rw but for a piece of block 33 and page 0x40000, which is why block 32 has an L1 page
unfoldable pub one_page_short : Outcome
one_page_short =
    stands
    (set (sets (sets (replicate 8192 0) 32 (0x0000400000080001 ∷ 0x00006000AAAAAAA8 ∷ replicate 30 0x00006000AAAAAAAA)) 512 (replicate 512 0x2222222222222222)) 512 0x2222222222222220)
    0x1140000000080000

unfoldable pub after_t : Outcome
after_t = edits bench one_page_short (ask 0x40000000 0x1000 read_write) most

-- V: block 32 by an L1 page that begins with four entries: a reserved bit in field 15, which says none, and rw in field 0; no reserved bit, and rw
-- in field 0; a reserved bit in field 15, which says rw; a reserved bit in field 0, and rw in field 15
unfoldable pub reserved_bits : Outcome
reserved_bits =
    stands
    (sets (set (replicate 8192 0) 32 0x0000400000080001) 512 (0x4000000000000002 ∷ 0x0000000000000002 ∷ 0x6000000000000000 ∷ 0x2000000000000004 ∷ []))
    0x1140000000080000

-- W: slots 0 and 1 as in N, and slot 7 opened with SDID 6
unfoldable pub with_seven : Outcome
with_seven = opens bench with_zero 7 6

-- W: two pages lent, the roots of slots 0 and 1: none is free
unfoldable pub two_roots : Outcome
two_roots = record { reply = opened; memory = replicate 1024 0; slots = set (set (replicate 8 empty_slot) 0 0x1140000000080000) 1 0x1000000000080001; fence = no_fence }

-- W: a table from before item 6, in slot 1. Blocks 96 and 97 are rwx, the one by a 1G type and the other by pieces; and an edit: rwx, 0x40000000,
-- one page, was cut after 513 stores
unfoldable pub from_before : Outcome
from_before =
    stands_in 1
    (set (set (set (set (replicate 8192 0) 96 0x0000300000000000) 97 0x00006000FFFFFFFF) 512 0x3) 32 0x0000400000080001)
    0x1140000000080000
