pub mod Refusals
pub mod Rules
pub mod Shapes
pub mod Parities
pub mod Places
