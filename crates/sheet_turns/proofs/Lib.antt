-- Lemmas on sheets, messages and closing.
pub mod Lengths
pub mod Moving
pub mod Messages
pub mod Closing
pub mod Turns
pub mod Halls
