pub mod Lowest
pub mod Found
pub mod Checked
pub mod Books
