--   Scan        the pass over a table, entry by entry, with marks (the code takes some GiBs at once)
--   FreeMarks   the free pages by the marks alone
--   Admission   what each call but a lookup asks first, and what stands once neither refusal fits
pub mod Scan
pub mod FreeMarks
pub mod Admission
