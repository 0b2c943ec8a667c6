-- Lemmas on hearing a packet.
pub mod Votes
pub mod Messages
pub mod Packets
