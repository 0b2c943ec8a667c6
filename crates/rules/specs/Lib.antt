-- The definitions that every rule is stated by.
pub mod Rounds
pub mod Laws
