-- The definitions that the contracts of messages cite.
pub mod Tags
pub mod Writing
pub mod Reading
pub mod Words
