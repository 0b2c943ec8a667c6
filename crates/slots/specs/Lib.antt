-- The definitions that the contracts of slots cite.
pub mod Places
pub mod Steps
