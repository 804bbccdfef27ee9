-- Definitions that are not of the watch trade, each family in a file of its own.
pub mod Range
pub mod Lists
pub mod Bytes
