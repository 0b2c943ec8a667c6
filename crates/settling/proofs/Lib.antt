-- Lemmas on taking the steps of slots.
pub mod Parts
pub mod Proposals
pub mod Slots
pub mod Cleared
