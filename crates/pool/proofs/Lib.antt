-- What the proofs of `pool` share.
pub mod Laws
pub mod Whole
