--   Bits         the bits of a number under `&`, `|` and `>>`; the two bits of a permission
--   MaskLaws     what masks count
--   FirstLaws    the first number of a run that passes a test, by parts of the run
--   CrowdLaws    what the slots have of a page, by the entries of its block
--   FaultLists   lists of faults: whether there is one, and which is the first
--   SlotRights   what a slot may do with a page, as a permission
--   TableFaults  what is at fault with a table page
--   PairFaults   pages that two slots share: by counting, and the first two
--   LowestPage   the lowest page at fault is what is answered
pub mod Bits
pub mod MaskLaws
pub mod FirstLaws
pub mod CrowdLaws
pub mod FaultLists
pub mod SlotRights
pub mod TableFaults
pub mod PairFaults
pub mod LowestPage
