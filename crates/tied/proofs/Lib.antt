-- The laws of the tie.
pub mod Words
pub mod Sites
pub mod Standing
pub mod Votes
pub mod Rulings
pub mod Silences
pub mod Walks
pub mod Hearings
pub mod Soundly
pub mod Tables
