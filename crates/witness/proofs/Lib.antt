-- The bench meets every premise, for either strength; and what the call answers that tests them.
--
--   Table     the words of the table that stands in the board's bytes
--   Premises  what is computed of the table, and the premises that follow
--   Runs      all premises as one theorem, and what the run gives each domain
--   Answers   what the call answers, as one claim
pub mod Table
pub mod Premises
pub mod Runs
pub mod Answers
