--   SoundRoots  from a sound table, once, to what the contracts use
--   Shape       what the laws ask of a layout
--   Fields      numbers by their digits
--   SpliceLaws  words spliced from the old one and the asked permission
--   EntryLaws   the words of an L1 page, before the edit and after it
--   FormLaws    the finished form of a block
--   EvenLaws    the finished form of a block that is read without an L1 page
--   GibLaws     the blocks of a GiB
--   CountLaws   the new pages of an edit, of which only the blocks at the ends of the range take any
--   RunLaws     making a list of stores up to a limit
--   Order       where an edit stands between two of its stores
--   PageLaws    the L1 page of a block
--   Places      one word of a page: the store into it
--   OwnPage     a block with an L1 page of its own
--   NewPage     a block that gets a new L1 page
--   BlockLaws   several blocks of one GiB at once
--   RowLaws     rows of neighbouring words
--   SlotLaws    slots one after another, and the words of a page to zero
pub mod Shape
pub mod Fields
pub mod SpliceLaws
pub mod EntryLaws
pub mod FormLaws
pub mod EvenLaws
pub mod GibLaws
pub mod CountLaws
pub mod RunLaws
pub mod Order
pub mod PageLaws
pub mod Places
pub mod OwnPage
pub mod NewPage
pub mod BlockLaws
pub mod RowLaws
pub mod SlotLaws
pub mod SoundRoots
