-- The laws of the kit, each family in a file of its own; README.md beside src/ lists them on one page.
pub mod Bools
pub mod Ranges
pub mod Counts
pub mod Loops
pub mod Listings
pub mod Iterated
pub mod Passing
pub mod Gathers
pub mod Members
pub mod Changes
pub mod Turns
pub mod Queues
pub mod Puts
pub mod Copies
pub mod Fields
pub mod Signs
