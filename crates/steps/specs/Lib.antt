-- What the contracts of `steps` cite: document 01, "Steps" and "Numbers given back", on the whole table.
pub mod Answers
pub mod Numbers
pub mod Steps
pub mod Night
