pub mod Compares
pub mod Audits
