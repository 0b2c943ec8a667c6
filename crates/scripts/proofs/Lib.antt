-- Lemmas on the words of a line. Assumes nothing.
pub mod Words
pub mod Offers
pub mod Ranges
pub mod Writing
