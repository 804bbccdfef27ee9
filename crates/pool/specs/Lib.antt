-- What the contracts of `pool` cite.
pub mod Pool
