pub mod Reading
pub mod Recovered
pub mod Accepted
pub mod Apart
pub mod Books
pub mod Spent
