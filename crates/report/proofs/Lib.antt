mod Ascii
pub mod Digits
pub mod Kept
pub mod Rows
pub mod Counts
pub mod Marks
pub mod Views
pub mod Shaped
