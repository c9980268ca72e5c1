--   EntryBounds   what the contracts say of the L1 entries that a range can meet
pub mod EntryBounds
