-- The definitions of runs of ballots, and what is claimed of them.
pub mod Views
pub mod Runs
pub mod Claims
pub mod Rest
