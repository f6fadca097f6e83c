pub mod Lines
pub mod Format
pub mod Checks
pub mod Stores
pub mod Small
pub mod Columns
