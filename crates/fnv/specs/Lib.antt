-- What the contracts of `fnv` cite.
pub mod Fnv
