pub mod Halves
pub mod Rows
pub mod Lists
pub mod Laws
pub mod Steps
pub mod Plans
