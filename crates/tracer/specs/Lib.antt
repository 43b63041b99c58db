pub mod Layout
pub mod Refusals
pub mod Steps
pub mod Whole
