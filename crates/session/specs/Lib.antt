-- The definition that the contracts of the reading cite.
pub mod Image
