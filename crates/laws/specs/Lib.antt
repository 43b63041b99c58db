pub mod Ends
pub mod Examples
pub mod Exceptions
pub mod Registers
