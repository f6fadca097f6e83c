pub mod Given
pub mod Heads
pub mod Printed
pub mod Prints
