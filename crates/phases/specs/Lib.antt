-- The definitions of the two supplied rules.
pub mod Phases
pub mod Records
pub mod Steps
pub mod Keeping
pub mod Unions
pub mod Turns
pub mod Adding
pub mod Elsewhere
