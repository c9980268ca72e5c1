-- A page of zeroes.
use Rattle.std.specs.Prelude.{List, ℕ, replicate}
use Rattle.std.proofs.lemmas.List.Edits.{sets}
use Rattle.table.specs.Board.{PAGE-WORDS}

-- the words of the page that starts at word at are zero
unfoldable pub zeroed : List ℕ → ℕ → List ℕ
zeroed m at = sets m at (replicate PAGE-WORDS 0)
