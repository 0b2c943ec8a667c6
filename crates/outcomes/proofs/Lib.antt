-- Lemmas on what the calls of a replica leave.
pub mod Turning
pub mod Keeping
pub mod Voting
pub mod Elsewhere
pub mod Ended
pub mod Proposed
pub mod SlotOrder
