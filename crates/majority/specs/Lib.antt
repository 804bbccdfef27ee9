-- What the contracts of `majority` cite.
pub mod Majority
