-- An evening that closes.
pub mod Witness
