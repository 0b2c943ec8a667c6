-- Lemmas on the one-shot rule's record.
pub mod Masks
