-- What the contracts of all crates above cite of document 01's numbers.
pub mod Numbers
