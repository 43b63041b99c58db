-- The lemmas on the image format.
pub mod Acceptance
pub mod Cutting
pub mod Forms
pub mod Inverse
pub mod Pairs
pub mod Steps
