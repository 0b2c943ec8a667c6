-- The definitions of evenings, runs of a whole hall, and what is claimed of them.
pub mod Evenings
pub mod Claims
