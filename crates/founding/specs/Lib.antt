pub mod Found
pub mod Memory
