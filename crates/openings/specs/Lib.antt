-- The definitions of the opening round.
pub mod Openings
