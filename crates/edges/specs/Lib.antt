-- What the edges of the share coin and of ballots are stated by.
pub mod Openings
pub mod Tosses
