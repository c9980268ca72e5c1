-- What the lookup's contracts say beyond the model.
--
--   Granted   the permission that a walk grants, none where it faults
pub mod Granted
