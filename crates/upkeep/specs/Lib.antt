-- What a table is inside a step.
pub mod But
