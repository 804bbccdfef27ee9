-- Laws of what a step looks for, asks and puts.
pub mod Found
mod Named
pub mod Given
-- What a step gives back, told.
pub mod Told
-- The free message places as a set.
pub mod FreeSet
