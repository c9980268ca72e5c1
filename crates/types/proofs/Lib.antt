--   Causes   the cause of a fault is a small number
pub mod Causes
