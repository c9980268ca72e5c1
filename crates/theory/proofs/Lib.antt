-- The demands, proved of the definitions, for every lawful layout. `Demands` is the file to open first; docs/PROOF.md tells the argument.
-- From the bottom up:
--
-- What a table is
--   Used         the pages in use: those of the roots, and those that entries name, counted
--   Entries      a lawful layout: what is encoded is decoded
--   Memory       one store to one entry of a lent page: which entries it changes
--   Frames       a frame within its bounds: entry numbers, page numbers and their parts
--   Roots        where the entries of a root stand
--   Tables       a sound table, as facts about its entries and its pages
--   TablePages   the table pages: roots and named pages, all of them lent
--   Walks        what a walk reads; what the entries name, when none or one of them changes
--   Finds        what a walk finds in a sound table; the permissions after an edit; the L1 entries that it wants
-- One call
--   Along        a list of stores: what holds before, between and after them
--   Plans        the plan of a call, and what a store of it keeps
--   OneStore     one store: into a free page, into an L1 page, into a root
--   BlockEntry   a block that is to hold permissions
--   BlockPage    a block that is to have an L1 page
--   BlockStores  the stores of one block
--   OneCall      the stores of all blocks
-- An accepted edit
--   Forms        the finished forms: they fit, and they follow from the permissions after the edit alone
--   Free         the free pages: which, and how many
--   Ranges       the range: whole pages, which blocks it touches
--   Domains      domains, their registers and roots
--   Accepts      what it says that no refusal fits
--   WholeCall    one accepted call: cut anywhere, and made whole
-- The demands
--   Cuts         calls that are cut anywhere: reads, retries, end permissions
--   CutsFree     the same number of free pages
--   Finished     what a whole call leaves
--   Ends         the two ends of a range
--   Counts       how many stores
--   PagesTaken   at most two new pages, and that the stores depend on those alone
--   Demands      demands 2 and 3
-- Opening and closing
--   OneSlot      one slot changes
--   Zeroed       a page that is zeroed
--   Registers    a register that opening makes
--   Opening      a table with one root more, or one less
--   OpenClose    the two calls
pub mod Used
pub mod Entries
pub mod Memory
pub mod Frames
pub mod Roots
pub mod Tables
pub mod TablePages
pub mod Walks
pub mod Finds
pub mod Along
pub mod Plans
pub mod OneStore
pub mod BlockEntry
pub mod BlockPage
pub mod BlockStores
pub mod OneCall
pub mod Forms
pub mod Free
pub mod Ranges
pub mod Domains
pub mod Accepts
pub mod WholeCall
pub mod Cuts
pub mod CutsFree
pub mod Finished
pub mod Ends
pub mod Counts
pub mod PagesTaken
pub mod Demands
pub mod OneSlot
pub mod Zeroed
pub mod Registers
pub mod Opening
pub mod OpenClose
