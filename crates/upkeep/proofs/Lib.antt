-- What keeps a table sound: each small operation of one site once, then what a site does with a request, then the other changes of a table.
pub mod Buts
pub mod Carried
pub mod Lifting
pub mod Queueing
pub mod Ruling
pub mod Voting
pub mod Walking
pub mod Kept
pub mod Blanks
pub mod Forgetting
pub mod Changing
pub mod Begins
