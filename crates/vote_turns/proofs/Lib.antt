-- Lemmas on what the calls of a replica do to its ballots.
pub mod Known
pub mod Pieces
pub mod Parts
pub mod Moved
pub mod Delivering
pub mod Heard
pub mod Taking
pub mod Starting
pub mod Calling
pub mod Resting
pub mod Still
