pub mod Sums
pub mod Cyclic
pub mod Laws
