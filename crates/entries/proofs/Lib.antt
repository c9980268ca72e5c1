--   Needs   the entry of a block that needs an L1 page names none
pub mod Needs
