-- Lemmas on every coin.
pub mod Showing
