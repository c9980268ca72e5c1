--   First    the first number of a run that passes a test
--   Masks    pages at the bits of a number: open to one slot, to two, reached by one
--   Crowds   how many slots have a page open and how many reach it, page by page and block by block
--   Faults   what is at fault with a page, by what each slot may do there
pub mod First
pub mod Masks
pub mod Crowds
pub mod Faults
