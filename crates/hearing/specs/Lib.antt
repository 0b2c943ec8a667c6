-- The definitions of hearing a packet, over the parts of a replica's tables.
pub mod Votes
