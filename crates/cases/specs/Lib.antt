-- The bench cases of the papers, and our own, as statements about the definitions.
--
--   Bench      the bench, the domains and the edits that the cases speak of
--   Cases      the cases: what is asked, and what is answered
pub mod Bench
pub mod Cases
