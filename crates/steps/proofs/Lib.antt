-- The laws of the steps.
-- The conditions of a step, what holds behind each, and that each keeps the table sound.
pub mod Allowed
pub mod Each
pub mod Upkeep
-- Runs over a buffer of records.
pub mod Running
mod Briefs
mod Turning
pub mod Nights
-- What a run gives back, told.
pub mod Told
mod Ways
pub mod Unrefused
