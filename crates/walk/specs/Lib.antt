-- The walk as a function that computes, which the contracts of `walk` cite, and as rules in document 01's words; and what its laws speak of.
pub mod Walking
pub mod Rules
pub mod Hearing
pub mod Order
