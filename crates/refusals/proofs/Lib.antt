-- What the layers above cite of the numbers.
pub mod Numbers
