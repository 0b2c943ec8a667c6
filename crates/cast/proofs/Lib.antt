-- Lemmas on what a till answers.
pub mod Hearing
