-- The definitions that the program's contracts cite.
pub mod Commands
pub mod Plays
pub mod States
