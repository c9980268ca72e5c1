-- Document 02, item 13: nobody reads a neighbour. `Neighbours` is the file to open first; docs/PROOF.md tells the argument. What is asked of a
-- table, and the call that tests it, stand in the model (`Apart`). Quotes are item 13's.
--
--   Neighbours  the premises and the claims
--   Board       the board memory: pages of bytes, and the table as a part of it
--   Run         accesses, what each gives and leaves, and what one domain is given in a run
--   Kept        what our own calls keep of who has which page
pub mod Board
pub mod Run
pub mod Neighbours
pub mod Kept
