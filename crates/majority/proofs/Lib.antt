-- What the layers above cite of the majority.
pub mod Majorities
