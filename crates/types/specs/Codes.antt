-- Numbers for what crosses to C: what is asked by code, and what is answered, each in one word of 64 bits.
use Rattle.std.specs.Prelude.{ℕ, Result, ◌+◌, ◌*◌, ◌%◌, ◌^◌, eqb, if◌then◌else◌, Ok, Err}
use Rattle.model.specs.Access.{fetch, load, store, Kind, itself, table_read, update, Answer, refused, allowed, fault}
use Rattle.model.specs.Lookup.{Privilege, machine, supervisor, user}
use Rattle.model.specs.Fence.{Fence, no_fence, domain_fence, address_fence}
use Rattle.model.specs.Calls.{Reply, refused_with, opened, closed, edited}
use Rattle.model.specs.Apart.{Strength, strict, sharing, Separation, refused_apart, apart, table_open, page_shared}

-- ---- what is asked

-- what a code names, if it names anything
pub data Named (A : Type 0) : Type 0 where
  known : A → Named A
  unknown : Named A

-- the privilege, as RISC-V encodes it
unfoldable pub privilege_at : ℕ → Named Privilege
privilege_at n = if eqb n 0 then known user else if eqb n 1 then known supervisor else if eqb n 3 then known machine else unknown

-- 0 to 2 an access itself, 3 to 5 a page-table read for one, 6 to 8 an A/D update for one: fetch, load, store
unfoldable pub kind_at : ℕ → Named Kind
kind_at n =
    if eqb n 0 then known (itself fetch) else
    if eqb n 1 then known (itself load) else
    if eqb n 2 then known (itself store) else
    if eqb n 3 then known (table_read fetch) else
    if eqb n 4 then known (table_read load) else
    if eqb n 5 then known (table_read store) else
    if eqb n 6 then known (update fetch) else
    if eqb n 7 then known (update load) else
    if eqb n 8 then known (update store) else
    unknown

-- 0 none, 1 rx, 2 rw, 3 rwx
unfoldable pub permission_at : ℕ → Named ℕ
permission_at n = if eqb n 0 then known 0 else if eqb n 1 then known 1 else if eqb n 2 then known 2 else if eqb n 3 then known 3 else unknown

-- 0 sharing, 1 strict
unfoldable pub strength_at : ℕ → Named Strength
strength_at n = if eqb n 0 then known sharing else if eqb n 1 then known strict else unknown

-- what the code makes of a code, by the view of what it names
abbrev pub named_by : {A B E : Type 0} → (A → B) → Result A E → Named B
named_by view (Ok x) = known (view x)
named_by view (Err e) = unknown

-- ---- what is answered: a refusal by its number, 1 to 8 or 10

-- a lookup: 0 allowed, 256 and the cause for a fault
abbrev pub answer_word : Answer → ℕ
answer_word allowed = 0
answer_word (refused n) = n
answer_word (fault cause) = 256 + cause

-- a fence: in bits 11:10 its kind (0 none, 1 domain, 2 address), in bits 17:12 its SDID, which is below 64. An address fence is for the
-- edit's start
abbrev pub fence_word : Fence → ℕ
fence_word no_fence = 0
fence_word (domain_fence sdid) = 1024 + sdid % 64 * 4096
fence_word (address_fence address sdid) = 2048 + sdid % 64 * 4096

-- open: the register of the new domain. close: bit 8 set, and the fence. edit: bit 8 set, bit 9 if all stores were made, the fence, and in
-- bits 57:18 how many stores were made, which are at most 1,536
abbrev pub reply_word : Reply → Fence → ℕ → ℕ
reply_word (refused_with n) f register = n
reply_word opened f register = register
reply_word closed f register = 256 + fence_word f
reply_word (edited count all) f register = 256 + (if all then 512 else 0) + fence_word f + count % 2 ^ 40 * 2 ^ 18

-- are the domains kept apart: 0 apart. Else bit 8 set, bit 9 if the page is a table's, bit 10 if a slot that is told may write it; in bits 14:12 the slot, in bits
-- 18:16 the other one; from bit 20 up the page number, which is below 2^22
abbrev pub separation_word : Separation → ℕ
separation_word (refused_apart n) = n
separation_word apart = 0
separation_word (table_open page slot written) = 256 + 512 + (if written then 1024 else 0) + slot % 8 * 2 ^ 12 + page % 2 ^ 40 * 2 ^ 20
separation_word (page_shared page slot other written) = 256 + (if written then 1024 else 0) + slot % 8 * 2 ^ 12 + other % 8 * 2 ^ 16 + page % 2 ^ 40 * 2 ^ 20
