-- Lemmas on the sheet broadcast: of its code first, then of its runs.
pub mod Heard
pub mod Clearing
pub mod Saying
pub mod Tables
pub mod Moves
pub mod Settling
pub mod Ending
pub mod Hearing
pub mod Turns
pub mod Kept
pub mod Everywhere
pub mod OfRuns
pub mod Delivering
pub mod OfWitness
