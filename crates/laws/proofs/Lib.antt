-- What the theory, the cases and the code's proofs share below any table:
--
--   Tests          facts of tests on the way, as the Booleans of a definition: `search tests`
--   FrameNumbers   what a frame within its bounds is; lent pages; where an entry stands
--   Shifts         digits by shifts
--   Decoded        what an L2 entry says, by the number above its INFO
--   Reserved       the reserved bits of an L1 entry, and of many, by a mask
--   FieldLaws      one field of an L1 entry: one of four permissions, and in a clean entry its digit
--   Choices        tests: by cases, and what a true or false `&&`, `||`, `not` says
--   Every          `every`, the test over a run of numbers: its steps, what it gives, what gives it
--   Lists          `each`, `member`, `distinct` and `joined`, one step at a time
--   Times          how often a number stands in a list; `member`, `distinct` and `each` by it
--   Sums           sums over a run of numbers and over a list, and what one change does to them
--   Digits         `digit` and `pack`: what is packed is read back
--   BinaryDigits   a binary digit taken out, and the lowest that is set
--   Bytes          the lent memory by bytes: a store changes those of its word and no other
--   Splices        a number spliced from the digits of two
--   Peeks          a word of a page, read by way of the page's parts: the same, and quick
--   InRange        a page in the range, and one outside, as numbers
--   Fronts         the list of free pages: what stands at a place of it
--   PageRuns       the finished form by runs of pages and not page by page: the same, and quick
pub mod Choices
pub mod Every
pub mod Lists
pub mod Times
pub mod Sums
pub mod Digits
pub mod BinaryDigits
pub mod Bytes
pub mod Splices
pub mod Peeks
pub mod PageRuns
pub mod Tests
pub mod FrameNumbers
pub mod Shifts
pub mod Decoded
pub mod Reserved
pub mod FieldLaws
pub mod InRange
pub mod Fronts
