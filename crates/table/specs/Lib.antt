--   Board     the layout of this crate's board
--   Bounds    the bounds that a leaf's result keeps
--   Stored    one store of a word
pub mod Board
pub mod Bounds
pub mod Stored
