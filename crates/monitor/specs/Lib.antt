--   Edits     what an edit asks
--   Promise   what a caller may rely on when calls are cut
pub mod Edits
pub mod Promise
