-- Lemmas of the lowest layer, for this crate and those above.
pub mod Counts
pub mod Totals
pub mod Digits
pub mod Stepping
pub mod Thirds
