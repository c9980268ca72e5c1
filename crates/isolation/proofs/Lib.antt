-- Item 13, proved of the definitions for every lawful layout whose page is 4,096 bytes. `Neighbours` is the file to open first.
--
--   Bytes       one byte stored: which bytes and which words of the table it changes
--   Walking     the same words in the table pages give every domain the same lookups
--   Steps       one access: the answer is that of the table at the start, and what it leaves alone
--   Slots       slots and the registers of their domains
--   Test        the call that tests a table answers `apart` exactly where the premises hold
--   Neighbours  nobody reads a neighbour
--   Kept        our own calls never open a lent page, and an edit changes nobody's pages but those that it names
pub mod Bytes
pub mod Walking
pub mod Steps
pub mod Slots
pub mod Test
pub mod Neighbours
pub mod Kept
