-- The definitions that the lowest layer's contracts cite.
pub mod Refusals
pub mod Halls
pub mod Counts
pub mod Bytes
pub mod Members
pub mod Steps
