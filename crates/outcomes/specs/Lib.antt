-- The definitions of what the calls of a replica answer and leave.
pub mod Holdings
pub mod Taking
pub mod SlotSteps
pub mod Hearing
pub mod Saying
pub mod Closing
pub mod Tables
pub mod Opening
pub mod Calls
