-- What it is that a promise leaves one outcome.
pub mod Outcomes
