-- Document 01's bench cases 1 to 10.
pub mod Cases
