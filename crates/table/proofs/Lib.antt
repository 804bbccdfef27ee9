-- What the proofs of `table` cite.
mod Chains
mod Blanks
mod Queueing
pub mod Places
pub mod Nothing
pub mod Queues
pub mod Backing
mod Marked
pub mod Meaning
mod Runs
mod RowSets
pub mod Same
mod BlankSites
mod Messages
mod Whole
pub mod FreshSound
