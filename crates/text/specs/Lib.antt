-- The definitions that the contracts cite.
pub mod Digits
pub mod Decimals
pub mod Hexadecimals
pub mod Lines
