-- Written by scripts/promises: a theorem for each public call, one file for each crate.
mod Same
pub mod Clock
pub mod Fnv
pub mod House
pub mod Kit
pub mod Lines
pub mod Majority
pub mod Plans
pub mod Pool
pub mod Readings
pub mod Record
pub mod Refusals
pub mod Sets
pub mod Sitefile
pub mod Stamps
pub mod Steps
pub mod Stream
pub mod Table
pub mod Vote
pub mod Walk
