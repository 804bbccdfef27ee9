-- The laws of `lines`.
-- The digits of a number, and what the writers' code does with them.
pub mod Decimals
pub mod Signs
pub mod Writes
pub mod Tails
pub mod Refused
-- What the layers above cite: how long a line can be, and that no two answers have the same line.
pub mod Laws
-- The lines of document 01.
pub mod Cases
-- The number of a record kept as digits.
pub mod Growing
pub mod Counting
