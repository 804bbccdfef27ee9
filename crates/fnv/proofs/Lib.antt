-- What the layers above cite of the check.
pub mod Laws
