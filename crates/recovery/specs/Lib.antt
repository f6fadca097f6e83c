pub mod Progress
pub mod Rebuild
