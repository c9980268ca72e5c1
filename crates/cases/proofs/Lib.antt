-- The cases hold, by computation.
--
--   QuickPasses   stores made in passes over the memory
--   QuickStores   the stores of an edit, with the words of L1 pages by runs of pages
--   Sounds        whether a table is sound, with the words of L1 pages read quickly
--   QuickCalls    an edit made of these; two refusals of open
--   Compute       what unfolds when a case is computed; the quick edit of a state
--   States        each state that the cases start from, in numbers
--   Answers       what is asked of a state, computed
--   Claim         the one claim over the cases marked *, and the others
pub mod QuickPasses
pub mod QuickStores
pub mod Sounds
pub mod QuickCalls
pub mod Compute
pub mod States
pub mod Answers
pub mod Claim
