--   SlotRoots      the root of an open slot of a sound table
--   FreePages      the two lowest free pages stand for all
--   EditRefusals   what an edit leaves, by the tests in their order
--   Promise        code and the third demand together: calls that are cut anywhere
pub mod SlotRoots
pub mod FreePages
pub mod EditRefusals
pub mod Promise
