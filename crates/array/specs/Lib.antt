pub mod Lost
pub mod Checks
pub mod Steps
pub mod Book
