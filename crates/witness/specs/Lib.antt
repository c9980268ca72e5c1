--   Witness   two domains with a page of each, and a page that both may read and execute; and a run of them
--   Answers   what the call answers that tests whether the domains are kept apart: there, and with one thing wrong
pub mod Witness
pub mod Answers
