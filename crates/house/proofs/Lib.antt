-- The laws of a night from bytes to bytes.
mod Rooms
mod Going
mod Whole
-- That what the code answers says no more and no less than document 01's number and length.
pub mod Told
