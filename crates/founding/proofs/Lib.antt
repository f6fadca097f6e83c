pub mod Together
pub mod Owner
pub mod Books
