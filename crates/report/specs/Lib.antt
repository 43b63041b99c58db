-- The definitions that the contracts of the trace's text cite.
pub mod Lines
pub mod Numeral
pub mod Outcomes
