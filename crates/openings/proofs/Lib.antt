-- Lemmas on the opening round.
pub mod Turning
