--   Prepared     what the contracts ask of an accepted edit, and the list of its stores
--   GibBlocks    blocks of one GiB: its one permission, a new page for one, and what a step over several did
--   StoresMade   what an edit that no refusal fits answers
pub mod Prepared
pub mod GibBlocks
pub mod StoresMade
