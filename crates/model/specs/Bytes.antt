-- The lent memory by bytes: "the table memory is lent as words of one entry each, their bytes counted low first".
use Rattle.std.specs.Prelude.{List, ℕ, ◌/◌, ◌%◌, get_or}
use Rattle.model.specs.Numbers.{digit}
use Rattle.model.specs.Layout.{Layout}

module _ (L : Layout) where
  -- bytes of an entry: its fields are of four bits, so two to a byte. 8 on RV64, 4 on RV32
  abbrev pub entry_bytes : ℕ
  entry_bytes = L.fields / 2

  -- byte n of the memory
  unfoldable pub byte_at : List ℕ → ℕ → ℕ
  byte_at m n = digit 256 (get_or m (n / entry_bytes) 0) (n % entry_bytes)
