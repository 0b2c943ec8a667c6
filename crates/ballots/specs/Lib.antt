-- The definitions of ballots.
pub mod States
pub mod Ballots
pub mod Listed
