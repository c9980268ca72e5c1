--   BoardShape   the laws of `shapes` hold of this board
--   Ends         the ends of a range of whole pages
--   FirstPage    the first page of a piece
pub mod BoardShape
pub mod Ends
pub mod FirstPage
