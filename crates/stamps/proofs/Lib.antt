-- What the layers above cite of stamps.
pub mod Laws
