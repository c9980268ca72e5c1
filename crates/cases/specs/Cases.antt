-- The cases. A line `-- CASE. what is asked` stands above each statement, whose right side is what is answered.
-- A to K are document 01's. Those that it marks * are one list by themselves (`marked_cases`); D, K and our own, L to W, stand beside it. The first
-- of V is document 02's.
use Rattle.std.specs.Prelude.{◌≡◌, true, false, List, [], ◌∷◌, take, drop, replicate}
use Rattle.model.specs.Layout.{rv64}
use Rattle.model.specs.Frame.{page_of}
use Rattle.model.specs.Walk.{pn0, pn1, pn2}
use Rattle.model.specs.Access.{itself, table_read, fetch, load, store, refused, allowed, fault}
use Rattle.model.specs.Fence.{domain_fence, address_fence}
use Rattle.model.specs.Calls.{refused_with, closed, edited}
use Rattle.cases.specs.Bench.{bench, small_bench, bad_bench, none, rx, read_write, rwx, ask, ask_of, most, opens, edits, closes, closes_on, look, look_by, register_at, l2, l1, eight_bytes, free_pages_of, words_stored, new, after_c, after_f, after_g, after_h, cut512, cut513, small1, small2, after_l, after_m, after_m2, with_zero, after_o, top_digit, wpri_set, past_the_blocks, after_t, reserved_bits, with_seven, two_roots, from_before}

-- every one of these statements holds
pub data AllOf : List (Type 0) → Type 1 where
  done : AllOf []
  both : {C : Type 0} {Cs : List (Type 0)} → C → AllOf Cs → AllOf (C ∷ Cs)

-- "Cases marked * are the set to prove, as one list under a single claim about the definitions."
abbrev pub marked_cases : List (Type 0)
marked_cases =
    -- A. register of the new domain
    (register_at new 0 ≡ 0x1140000000080000)
    -- A. load 0x40000000 on the new domain
    ∷ (look new 0x40000000 (itself load) ≡ fault 5)
    -- B. pn[2] of 0x40123456
    ∷ (pn2 (page_of 0x40123456) ≡ 32)
    -- B. pn[1] of 0x40123456
    ∷ (pn1 rv64 (page_of 0x40123456) ≡ 18)
    -- B. pn[0] of 0x40123456
    ∷ (pn0 rv64 (page_of 0x40123456) ≡ 3)
    -- C. edit: rw, 0x40000000, length 0x1000, limit 1536
    ∷ (after_c.reply ≡ edited 544 true)
    -- C. its fence
    ∷ (after_c.fence ≡ domain_fence 5)
    -- C. L2 entry 32
    ∷ (l2 after_c 32 ≡ 0x0000400000080001)
    -- C. L2 entries 33 to 63
    ∷ (take 31 (drop 33 after_c.memory) ≡ replicate 31 0x0000600000000000)
    -- E. after C, store 0x40000FFF
    ∷ (look after_c 0x40000FFF (itself store) ≡ allowed)
    -- E. fetch there
    ∷ (look after_c 0x40000FFF (itself fetch) ≡ fault 1)
    -- E. page-table read for a store at 0x40001000
    ∷ (look after_c 0x40001000 (table_read store) ≡ fault 7)
    -- F. after C, L1 entry 0
    ∷ (l1 after_c 0 ≡ 0x2)
    -- F. edit: rx, 0x40003000, one page
    ∷ (after_f.reply ≡ edited 1 true)
    -- F. L1 entry 0
    ∷ (l1 after_f 0 ≡ 0x1002)
    -- F. its fence
    ∷ (after_f.fence ≡ address_fence 0x40003000 5)
    -- G. after C, edit: rw, 0x40000000, length 0x40000000
    ∷ (after_g.reply ≡ edited 32 true)
    -- G. the words stored
    ∷ (words_stored after_c (ask 0x40000000 0x40000000 read_write) ≡ replicate 32 0x0000200000000000)
    -- G. free pages
    ∷ (free_pages_of after_g ≡ 15)
    -- H. after G, edit: none, 0x40200000, length 0x200000
    ∷ (after_h.reply ≡ edited 32 true)
    -- H. L2 entry 32
    ∷ (l2 after_h 32 ≡ 0x00006000AAAAAAA2)
    -- I. on the new domain, edit: rw, 0xFFFFF000, length 0x1000
    ∷ ((edits bench new (ask 0xFFFFF000 0x1000 read_write) most).reply ≡ edited 544 true)
    -- I. the same, length 0x2000
    ∷ ((edits bench new (ask 0xFFFFF000 0x2000 read_write) most).reply ≡ refused_with 5)
    -- I. load 0x100000000
    ∷ (look new 0x100000000 (itself load) ≡ fault 5)
    -- J. on the new domain, edit: rw, 0x8000F000, one page
    ∷ ((edits bench new (ask 0x8000F000 0x1000 read_write) most).reply ≡ refused_with 6)
    -- J. rw, 0x80010000, one page
    ∷ ((edits bench new (ask 0x80010000 0x1000 read_write) most).reply ≡ edited 544 true)
    -- J. none, 0x8000F000, one page
    ∷ ((edits bench new (ask 0x8000F000 0x1000 none) most).reply ≡ edited 0 true)
    ∷ []

abbrev pub other_cases : List (Type 0)
other_cases =
    -- D. C with limit 512
    (cut512.reply ≡ edited 512 false)
    -- D. then load 0x40000000
    ∷ (look cut512 0x40000000 (itself load) ≡ fault 5)
    -- D. C with limit 513
    ∷ (cut513.reply ≡ edited 513 false)
    -- D. then load 0x40000000
    ∷ (look cut513 0x40000000 (itself load) ≡ allowed)
    -- D. and load 0x40001000
    ∷ (look cut513 0x40001000 (itself load) ≡ fault 5)
    -- D. C again from there
    ∷ ((edits bench cut513 (ask 0x40000000 0x1000 read_write) most).reply ≡ edited 31 true)
    -- K. two pages lent, edit: rw, 0x40000000, one page
    ∷ (small1.reply ≡ edited 544 true)
    -- K. then rw, 0x42000000, one page
    ∷ ((edits small_bench small1 (ask 0x42000000 0x1000 read_write) most).reply ≡ refused_with 7)
    -- K. none on the first
    ∷ (small2.reply ≡ edited 32 true)
    -- K. then the second
    ∷ ((edits small_bench small2 (ask 0x42000000 0x1000 read_write) most).reply ≡ edited 544 true)
    -- L. pn[1] 5 and pn[0] 9, edit: rw, 0x40059000, one page
    ∷ (after_l.reply ≡ edited 544 true)
    -- L. L1 entry 5
    ∷ (l1 after_l 5 ≡ 0x0000002000000000)
    -- L. load 0x40059FFF
    ∷ (look after_l 0x40059FFF (itself load) ≡ allowed)
    -- L. load 0x40095000, where pn[1] is 9 and pn[0] is 5
    ∷ (look after_l 0x40095000 (itself load) ≡ fault 5)
    -- M. across a GiB boundary, edit: rw, 0xBFE00000, length 0x400000
    ∷ (after_m.reply ≡ edited 64 true)
    -- M. L2 entry 95
    ∷ (l2 after_m 95 ≡ 0x0000600080000000)
    -- M. L2 entry 96
    ∷ (l2 after_m 96 ≡ 0x0000600000000002)
    -- M. edit: rw, 0xBFFFF000, two pages
    ∷ (after_m2.reply ≡ edited 1088 true)
    -- M. L2 entries 95 and 96
    ∷ (take 2 (drop 95 after_m2.memory) ≡ 0x0000400000080001 ∷ 0x0000400000080002 ∷ [])
    -- N. open slot 1 with SDID 0
    ∷ (register_at with_zero 1 ≡ 0x1000000000080001)
    -- N. open slot 2 with SDID 0
    ∷ ((opens bench with_zero 2 0).reply ≡ refused_with 8)
    -- N. close slot 1: the fence
    ∷ ((closes with_zero 1).fence ≡ domain_fence 0)
    -- N. two pages lent and none free, open slot 1 with SDID 5, which slot 0 holds
    ∷ ((opens small_bench small1 1 5).reply ≡ refused_with 8)
    -- N. the same with SDID 0
    ∷ ((opens small_bench small1 1 0).reply ≡ refused_with 7)
    -- O. a GiB of rw in unfinished form, edit: none, 0x40200000, length 0x200000
    ∷ (after_o.reply ≡ edited 32 true)
    -- O. L2 entry 32
    ∷ (l2 after_o 32 ≡ 0x00006000AAAAAAA2)
    -- O. free pages
    ∷ (free_pages_of after_o ≡ 15)
    -- P. an L2 entry that names page 0x100080001, load 0x40000000
    ∷ (look top_digit 0x40000000 (itself load) ≡ fault 5)
    -- P. close its slot
    ∷ ((closes top_digit 0).reply ≡ refused_with 3)
    -- Q. after C, bytes 256 to 263 of the lent memory, which are L2 entry 32
    ∷ (eight_bytes after_c 256 ≡ 0x01 ∷ 0x00 ∷ 0x08 ∷ 0x00 ∷ 0x00 ∷ 0x40 ∷ 0x00 ∷ 0x00 ∷ [])
    -- R. a bit of WPRI set in the register, load 0x40000000
    ∷ (look wpri_set 0x40000000 (itself load) ≡ allowed)
    -- R. close its slot
    ∷ ((closes wpri_set 0).reply ≡ refused_with 3)
    -- S. an L2 entry past the last block that breaks the rules, and one that would name a page: free pages
    ∷ (free_pages_of past_the_blocks ≡ 15)
    -- S. close its slot
    ∷ ((closes past_the_blocks 0).reply ≡ closed)
    -- T. a block that has its L1 page for one page's sake, edit: rw, that page
    ∷ (after_t.reply ≡ edited 1 true)
    -- T. L2 entry 32, its one store
    ∷ (l2 after_t 32 ≡ 0x00006000AAAAAAAA)
    -- T. its fence
    ∷ (after_t.fence ≡ domain_fence 5)
    -- U. lowest number first: all wrong at once, edit: slot 8, rw, 0x8000F000, length 0x800, on P's table, page 0 lent
    ∷ ((edits bad_bench top_digit (ask_of 8 0x8000F000 0x800 read_write) most).reply ≡ refused_with 1)
    -- U. the same with the right frame
    ∷ ((edits bench top_digit (ask_of 8 0x8000F000 0x800 read_write) most).reply ≡ refused_with 3)
    -- U. the same on the new domain
    ∷ ((edits bench new (ask_of 8 0x8000F000 0x800 read_write) most).reply ≡ refused_with 4)
    -- U. the same in slot 0
    ∷ ((edits bench new (ask 0x8000F000 0x800 read_write) most).reply ≡ refused_with 5)
    -- U. two pages lent and none free, edit: rw, 0x80000000, one page
    ∷ ((edits small_bench small1 (ask 0x80000000 0x1000 read_write) most).reply ≡ refused_with 6)
    -- U. open slot 8 with SDID 64 on P's table, page 0 lent
    ∷ ((opens bad_bench top_digit 8 64).reply ≡ refused_with 1)
    -- U. the same with the right frame
    ∷ ((opens bench top_digit 8 64).reply ≡ refused_with 3)
    -- U. the same on the new domain
    ∷ ((opens bench new 8 64).reply ≡ refused_with 4)
    -- U. the same in slot 1
    ∷ ((opens bench new 1 64).reply ≡ refused_with 8)
    -- U. close slot 8 on P's table, page 0 lent
    ∷ ((closes_on bad_bench top_digit 8).reply ≡ refused_with 1)
    -- U. the same with the right frame
    ∷ ((closes top_digit 8).reply ≡ refused_with 3)
    -- U. the same on the new domain
    ∷ ((closes new 8).reply ≡ refused_with 4)
    -- U. lookup by a register of MODE 2, page 0 lent
    ∷ (look_by bad_bench 0x2140000000080000 new 0x40000000 (itself load) ≡ refused 1)
    -- U. the same with the right frame
    ∷ (look_by bench 0x2140000000080000 new 0x40000000 (itself load) ≡ refused 2)
    -- V. document 02, item 3: "L1 entry 0x4000000000000002, load of its page 0"
    ∷ (look reserved_bits 0x40000000 (itself load) ≡ fault 5)
    -- V. load of its page 15, whose field has the bit and says none
    ∷ (look reserved_bits 0x4000F000 (itself load) ≡ fault 5)
    -- V. L1 entry 0x2 beside it, load of its page 0
    ∷ (look reserved_bits 0x40010000 (itself load) ≡ allowed)
    -- V. L1 entry 0x6000000000000000, load of its page 15, whose field has the bit and says rw
    ∷ (look reserved_bits 0x4002F000 (itself load) ≡ fault 5)
    -- V. L1 entry 0x2000000000000004, store to its page 15, where the bit is in the lowest field
    ∷ (look reserved_bits 0x4003F000 (itself store) ≡ fault 7)
    -- V. close its slot
    ∷ ((closes reserved_bits 0).reply ≡ refused_with 3)
    -- W. document 02, item 6: slots 0 and 1 open, edit: slot 1, rwx, 0x40000000, one page
    ∷ ((edits bench with_zero (ask_of 1 0x40000000 0x1000 rwx) most).reply ≡ refused_with 10)
    -- W. the same in slot 0
    ∷ ((edits bench with_zero (ask 0x40000000 0x1000 rwx) most).reply ≡ edited 544 true)
    -- W. slot 7 open too, the same in it
    ∷ ((edits bench with_seven (ask_of 7 0x40000000 0x1000 rwx) most).reply ≡ refused_with 10)
    -- W. the same in slot 2, which is empty
    ∷ ((edits bench with_zero (ask_of 2 0x40000000 0x1000 rwx) most).reply ≡ refused_with 4)
    -- W. slot 1, rwx, 0x8000F000, which is lent, length 0x800
    ∷ ((edits bench with_zero (ask_of 1 0x8000F000 0x800 rwx) most).reply ≡ refused_with 5)
    -- W. the same, one page
    ∷ ((edits bench with_zero (ask_of 1 0x8000F000 0x1000 rwx) most).reply ≡ refused_with 10)
    -- W. the same in slot 0
    ∷ ((edits bench with_zero (ask 0x8000F000 0x1000 rwx) most).reply ≡ refused_with 6)
    -- W. slot 1, none, 0x40000000, one page
    ∷ ((edits bench with_zero (ask_of 1 0x40000000 0x1000 none) most).reply ≡ edited 0 true)
    -- W. the same with rx
    ∷ ((edits bench with_zero (ask_of 1 0x40000000 0x1000 rx) most).reply ≡ edited 544 true)
    -- W. the same with rw
    ∷ ((edits bench with_zero (ask_of 1 0x40000000 0x1000 read_write) most).reply ≡ edited 544 true)
    -- W. two pages lent and none free, edit: slot 1, rwx, 0x40000000, one page
    ∷ ((edits small_bench two_roots (ask_of 1 0x40000000 0x1000 rwx) most).reply ≡ refused_with 10)
    -- W. the same with rw
    ∷ ((edits small_bench two_roots (ask_of 1 0x40000000 0x1000 read_write) most).reply ≡ refused_with 7)
    -- W. pages of slot 1 that are rwx from before, fetch 0xC0000000
    ∷ (look_by bench 0x1140000000080000 from_before 0xC0000000 (itself fetch) ≡ allowed)
    -- W. store 0xC2000000
    ∷ (look_by bench 0x1140000000080000 from_before 0xC2000000 (itself store) ≡ allowed)
    -- W. close their slot
    ∷ ((closes from_before 1).reply ≡ closed)
    -- W. an edit that began before: slot 1, rwx, 0x40000000, one page, cut after 513 stores, again
    ∷ ((edits bench from_before (ask_of 1 0x40000000 0x1000 rwx) most).reply ≡ refused_with 10)
    -- W. edit: slot 1, rw, 0x40001000, the page after one that is rwx: L1 entry 0
    ∷ (l1 (edits bench from_before (ask_of 1 0x40001000 0x1000 read_write) most) 0 ≡ 0x23)
    -- W. edit: slot 1, rx, 0xC0000000, one page, which was rwx: L1 entries 0 and 1 of the new page, whose other pages stay rwx
    ∷ (take 2 (drop 1024 (edits bench from_before (ask_of 1 0xC0000000 0x1000 rx) most).memory) ≡ 0x3333333333333331 ∷ 0x3333333333333333 ∷ [])
    ∷ []
