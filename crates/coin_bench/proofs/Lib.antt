-- Lemmas of the bench.
pub mod Dealing
