-- The definitions that the contracts of hexadecimal text cite.
pub mod Digits
