--   ZeroLoop   a page zeroed word by word
--   Refusals   what opening and closing leave, by the tests in their order
pub mod ZeroLoop
pub mod Refusals
