pub mod Progress
pub mod Audit
