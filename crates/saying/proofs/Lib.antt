-- The lemmas of saying.
pub mod Firsts
pub mod Lowest
pub mod Positions
pub mod SaidVotes
pub mod SaidShares
pub mod SaidSheets
pub mod PassedOver
pub mod AllSaid
pub mod TheFirst
