-- What the layers above cite of sets: the laws of masks, and what the definitions say of each item.
pub mod Laws
pub mod Members
pub mod Lowest
