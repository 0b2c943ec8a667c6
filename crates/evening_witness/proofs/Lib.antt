-- Lemmas on evenings that close.
pub mod Rows
pub mod Filling
pub mod Rounds
pub mod Ballots
pub mod Turning
pub mod Looking
pub mod Hearing
pub mod Offering
pub mod Halls
pub mod Evenings
pub mod Fewer
pub mod OfWitness
