-- The definitions that the program's contracts cite.
pub mod Entries
pub mod Outcomes
