-- The definitions that the contracts of the sheet broadcast cite.
pub mod Calls
pub mod Opening
pub mod Saying
pub mod Runs
pub mod Claims
pub mod Witness
