-- Demand 3 in the table's words.
pub mod Nights
pub mod Promises
pub mod Examples
