pub mod Bounds
pub mod Encodes
pub mod Changes
