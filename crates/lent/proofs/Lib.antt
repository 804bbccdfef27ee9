-- What the proofs by hand cite.
pub mod Steps
