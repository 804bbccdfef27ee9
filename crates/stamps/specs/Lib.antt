-- What the contracts of `stamps` cite.
pub mod Stamps
pub mod Issue
