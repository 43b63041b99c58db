-- The definitions that the contracts of the image's reader cite.
pub mod Acceptance
pub mod Checking
pub mod Format
pub mod Inverse
pub mod Lines
pub mod Meaning
pub mod Memory
pub mod Reading
pub mod Walk
