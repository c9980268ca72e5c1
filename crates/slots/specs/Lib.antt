--   Outcomes   what a call leaves, as the model's
--   ZeroPage   a page of zeroes
pub mod Outcomes
pub mod ZeroPage
