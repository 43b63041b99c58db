-- The lemmas on hexadecimal text.
pub mod Inverse
pub mod Padded
pub mod Reading
