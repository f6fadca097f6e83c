pub mod Progress
pub mod Columns
