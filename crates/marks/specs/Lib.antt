--   Marks   marks as bits of words: which one stands, one taken away, none and all of them, the lowest
pub mod Marks
