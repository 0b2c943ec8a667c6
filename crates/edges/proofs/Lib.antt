-- Lemmas on the edges of the share coin and of ballots.
pub mod Deciding
pub mod Tossing
