-- What the contracts of `house` cite.
pub mod House
pub mod Ways
