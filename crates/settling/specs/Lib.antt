-- The definitions of taking the steps of slots.
pub mod Proposing
pub mod Turns
