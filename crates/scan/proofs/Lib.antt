-- Why the pass with marks finds what the definition of a sound table says.
--
--   Loops        one turn of a loop, over a list and over words part by part
--   FlatEntries  entries of the "1G" types name no page, and many are told at once
--   Claims       a pass that takes marks away finds whether the places are distinct, and leaves all the others
--   UsedPages    pages in use are lent, so that their places among the lent tell them apart; the marks that are left
--   Pass         the two passes, over the registers and over the tables
--   MarkedPages  the marked pages: none, or the lowest and the others; those from a place on
--   Laws         what callers use: a lent page of a sound table is marked exactly when it is free; free pages are lent
--   Admissions   refusals 1 and 3: what the two passes say of them, and what they are for every call
pub mod Loops
pub mod FlatEntries
pub mod Claims
pub mod UsedPages
pub mod Pass
pub mod MarkedPages
pub mod Laws
pub mod Admissions
