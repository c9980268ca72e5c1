--   EachBits     the numbers with 1 in each field and in each piece, bit by bit
--   GatherLaws   what is gathered of a block with one slot more
--   TableMarks   the table pages by the marks of the free pages
pub mod EachBits
pub mod GatherLaws
pub mod TableMarks
