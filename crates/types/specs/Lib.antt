--   Views   the code's types as the model's, with the papers' number for each case
--   Codes   numbers for what crosses to C: what is asked by code, and what is answered in one word
--   Range   what the contracts ask of a range, and what they say of where pages lie
--   Texts   what is printed of what a call answers
pub mod Views
pub mod Range
pub mod Codes
pub mod Texts
