-- Lemmas on the two supplied rules.
pub mod Masks
pub mod Ending
pub mod Nothing
pub mod Finished
