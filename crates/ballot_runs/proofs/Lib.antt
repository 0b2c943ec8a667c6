-- Lemmas on runs of ballots.
pub mod Opens
pub mod OpeningSteps
pub mod Opened
pub mod Rounds
pub mod Moves
pub mod Kept
pub mod Agree
pub mod Proposing
pub mod Enough
pub mod OpeningSettled
pub mod OpeningRest
pub mod Ending
pub mod Holding
pub mod Several
pub mod Lasting
