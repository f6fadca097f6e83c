pub mod Hex
pub mod Kinds
pub mod Bytes
pub mod Stands
pub mod Laws
