-- Lemmas on ballots.
pub mod Rows
pub mod Settling
pub mod Listing
pub mod Sweeps
pub mod Reproposing
pub mod Order
