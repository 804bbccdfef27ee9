-- What the proofs of `clock` share.
pub mod Laws
