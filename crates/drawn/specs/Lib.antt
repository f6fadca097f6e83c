pub mod Drawn
pub mod Checksums
