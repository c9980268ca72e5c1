-- Entries of the tables: what a word says, and the word that says it.
-- A permission is a number, as the tables hold it: 0 none, 1 rx, 2 rw, 3 rwx.
use Rattle.std.specs.Prelude.{Bool, not, ℕ, ◌+◌, ◌*◌, ◌/◌, ◌%◌, ◌^◌, eqb, ltb, if◌then◌else◌}
use Rattle.model.specs.Numbers.{every, digit}
use Rattle.model.specs.Layout.{Layout}

-- What an L2 entry says of its block: one permission (a "1G" type); a permission for each piece, two bits each, lowest first;
-- the page number of an L1 page; or nothing, since it breaks the rules
pub data Entry : Type 0 where
  flat : ℕ → Entry
  pieces : ℕ → Entry
  table : ℕ → Entry
  invalid : Entry

-- What the walk finds: a permission, or that the walk itself faults
pub data Found : Type 0 where
  perm : ℕ → Found
  faults : Found

module _ (L : Layout) where
  -- ---- an L2 entry. On RV64: INFO 43:0, TYPE 46:44, ZERO 63:47

  unfoldable pub info_of : ℕ → ℕ
  info_of e = e % 2 ^ L.info_bits

  unfoldable pub type_of : ℕ → ℕ
  type_of e = e / 2 ^ L.info_bits % 8

  unfoldable pub zero_of : ℕ → ℕ
  zero_of e = e / 2 ^ (L.info_bits + 3)

  -- "TYPE 0 none, 1 rx, 2 rw, 3 rwx: the '1G' types, INFO zero. TYPE 4: INFO is the page number of an L1 page. TYPE 6: INFO 31:0 is
  -- 16 two-bit permissions, one per 2 MiB, lowest first, INFO 43:32 zero. TYPE 5 and 7 fault. ZERO not zero, or INFO against these
  -- rules, faults."
  unfoldable pub decode : ℕ → Entry
  decode e =
      if not (eqb (zero_of e) 0) then invalid else
      if ltb (type_of e) 4 then (if eqb (info_of e) 0 then flat (type_of e) else invalid) else
      if eqb (type_of e) 4 then table (info_of e) else
      if eqb (type_of e) L.piece_type then (if ltb (info_of e) (4 ^ L.pieces) then pieces (info_of e) else invalid) else
      invalid

  -- the word that says it. TYPE 7 stands for what no entry says
  unfoldable pub encode : Entry → ℕ
  encode (flat p) = p * 2 ^ L.info_bits
  encode (pieces info) = L.piece_type * 2 ^ L.info_bits + info
  encode (table page) = 4 * 2 ^ L.info_bits + page
  encode invalid = 7 * 2 ^ L.info_bits

  -- ---- an L1 entry: fields of four bits. "The low two bits of a field are the permission .., the high two are reserved."

  -- "all reserved bits in it are zero"
  unfoldable pub clean : ℕ → Bool
  clean word = every (λ i. ltb (digit 16 word i) 4) L.fields 0

  -- Document 02, item 3: "Now a reserved bit set in any of its 16 fields faults the access."
  unfoldable pub field_of : ℕ → ℕ → Found
  field_of word i = if clean word then perm (digit 16 word i % 4) else faults
