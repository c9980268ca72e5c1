-- Document 01 as definitions, with what document 02 changes of it, in the order in which a reader wants them. A quote is document 01's unless
-- another is named. Nothing here is code, and nothing is proved here: this is what the promises mean.
--
--   Numbers    plain helpers: runs of numbers, lists as sets, digits
--   Layout     what differs between the boards: widths and counts
--   Register   mmpt: its fields, and which registers a lookup refuses
--   Entry      L2 and L1 entries: what a word says, and the word that says it
--   Frame      the frame and its bounds; the lent memory as words of one entry each
--   Bytes      the lent memory by bytes
--   Walk       from a root page and a page number to a permission
--   Access     kinds of access, what each needs, who may do what, causes
--   Lookup     the first call, and how an address reads
--   Sound      slots, the pages in use, a sound table, the free pages
--   Forms      an edit's range, the permissions after it, the finished form of each block
--   Stores     the ordered list of an edit's stores, and its new pages
--   Fence      which fence a call asks for
--   Calls      open, close and edit: refusals, answer, memory, slots, fence
--   Apart      what is asked of a table that keeps its domains apart, and the call that tests it
--   Demands    the second and the third demand of document 00, as statements
pub mod Numbers
pub mod Layout
pub mod Register
pub mod Entry
pub mod Frame
pub mod Bytes
pub mod Walk
pub mod Access
pub mod Lookup
pub mod Sound
pub mod Forms
pub mod Stores
pub mod Fence
pub mod Calls
pub mod Apart
pub mod Demands
