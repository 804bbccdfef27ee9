-- Demand 3, proved; and that it is not kept by a table that accepts nothing.
pub mod Histories
pub mod Names
pub mod Turns
pub mod Steps
pub mod Tonight
pub mod Examples
