pub mod Hands
pub mod Steps
pub mod Law
