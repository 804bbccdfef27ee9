-- What the contracts of `table` cite.
pub mod Places
pub mod Blank
pub mod Sound
pub mod Parts
pub mod Gathered
pub mod Meaning
pub mod Fresh
