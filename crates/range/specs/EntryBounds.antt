-- What the contracts say of the L1 entries that a range can meet.
use Rattle.std.specs.Prelude.{◌≡◌, false, ℕ, ◌+◌, ◌*◌, ◌≤◌, ◌<◌}
use Rattle.model.specs.Layout.{block_pages}
use Rattle.model.specs.Forms as model
use Rattle.table.specs.Board.{FIELDS}

-- no page of block b lies in the range below its L1 entry n; and none from that entry on
abbrev pub Below : model.Request → ℕ → ℕ → Type 0
Below q b n = (k : ℕ) → k < b * block_pages + n * FIELDS → b * block_pages ≤ k → model.in_range q k ≡ false

abbrev pub Past : model.Request → ℕ → ℕ → Type 0
Past q b n = (k : ℕ) → b * block_pages + n * FIELDS ≤ k → k < b * block_pages + block_pages → model.in_range q k ≡ false
