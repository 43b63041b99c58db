-- The lemmas on the lines of a run.
pub mod Walk
