pub mod Sums
pub mod Residues
pub mod Classes
pub mod Window
pub mod Counts
pub mod Changes
