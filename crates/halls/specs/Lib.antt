-- The definitions that the contracts of a hall cite.
pub mod Actives
pub mod States
pub mod Faults
pub mod Tills
pub mod Packets
pub mod Plays
pub mod Scenes
pub mod Sweeps
pub mod Halls
pub mod Prints
pub mod Scripts
