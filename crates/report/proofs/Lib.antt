-- The lemma on the numbers of a trace.
pub mod Numerals
