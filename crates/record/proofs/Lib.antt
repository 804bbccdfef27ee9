-- What the proofs of `record` and the layers above cite.
pub mod Items
pub mod Frames
pub mod Cases
pub mod Laws
pub mod Briefs
