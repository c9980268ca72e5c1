-- One store of a word.
use Rattle.std.specs.Prelude.{ℕ}
use Rattle.model.specs.Stores.{Store}

abbrev pub store_of : ℕ → ℕ → Store
store_of at word = record { at = at; word = word }
