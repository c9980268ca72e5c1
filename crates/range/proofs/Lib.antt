--   Lawful     the layout of this board is lawful
--   RangeEnds  the ends of a range and of the lent pages
pub mod Lawful
pub mod RangeEnds
