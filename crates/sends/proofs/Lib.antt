-- Lemmas on entries that are sent and received.
pub mod Trips
