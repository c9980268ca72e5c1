--   Rooted   what a sound table says of an entry and of a root: the form in which contracts use it
--   Words    an L1 entry as it stands, and as an edit leaves it
--   Blocks   a block and a range
--   Pages    the L1 page of a block
--   Rows     rows of neighbouring words
--   Run      making a list of stores, as many as are left
--   Ahead    where an edit stands between two of its stores
--   Slots    the slots
pub mod Words
pub mod Blocks
pub mod Pages
pub mod Rows
pub mod Run
pub mod Ahead
pub mod Slots
pub mod Rooted
