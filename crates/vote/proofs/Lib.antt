-- Laws of what one site does, each family in a file of its own.
pub mod KnownVoters
pub mod Rows
pub mod VoteNumbers
pub mod Queues
pub mod Writes
mod WrittenItems
pub mod VerdictsDue
pub mod Conflicts
pub mod Considering
pub mod Fields
pub mod Said
pub mod MarkKinds
pub mod After
pub mod Shapes
