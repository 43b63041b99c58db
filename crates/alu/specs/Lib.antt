pub mod Arithmetic
pub mod Compare
pub mod Extend
pub mod Shift
