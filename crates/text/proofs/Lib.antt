-- The lemmas that the proofs of several functions share.
pub mod Numerals
pub mod Splits
