-- What the contracts of `plans` cite: answers, what a step looks for and asks, and what it puts in the place of a piece.
pub mod Answers
pub mod Pieces
pub mod Changes
pub mod Free
