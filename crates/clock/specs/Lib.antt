-- What the contracts of `clock` cite.
pub mod Clock
