-- The laws of readings.
pub mod Orders
