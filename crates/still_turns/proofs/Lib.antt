-- Lemmas on replicas at which no step is left.
pub mod Rules
pub mod Ballots
pub mod Slots
pub mod Starting
pub mod Calling
pub mod Evenings
