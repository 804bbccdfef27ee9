-- What the contracts of the programs' shared loop cite.
pub mod Counts
pub mod Stands
