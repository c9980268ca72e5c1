--   Faults     a lookup that answers a fault answers that of the original access
--   ApartWord  the word that tells whether domains are kept apart is 0 only if they are
pub mod Faults
pub mod ApartWord
