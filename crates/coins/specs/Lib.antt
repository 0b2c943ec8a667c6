-- What coins do and keep, and what the two coins are.
pub mod Coins
pub mod Dealt
pub mod Tosses
pub mod Shared
pub mod Keeping
pub mod Tossing
