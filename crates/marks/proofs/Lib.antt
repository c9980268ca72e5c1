--   Laws   a mark taken away and all the others; all marks; the marks of a word
pub mod Laws
