pub mod Turns
pub mod Passed
