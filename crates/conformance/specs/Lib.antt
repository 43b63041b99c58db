-- The definitions that the contracts of the comparison cite.
pub mod Ending
pub mod Agreement
