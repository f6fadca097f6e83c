pub mod Carries
pub mod Books
