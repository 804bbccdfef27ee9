-- Laws of the walk, each family in a file of its own.
mod Turns
pub mod Walks
pub mod Inductions
pub mod HearingInductions
pub mod Queued
pub mod TurnLaws
pub mod Orders
pub mod Laters
pub mod Others
pub mod Logs
pub mod Copies
pub mod Counts
pub mod Cases
