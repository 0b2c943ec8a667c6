-- Lemmas on places and steps.
pub mod Positions
pub mod Leaders
pub mod Tallies
pub mod Stepping
