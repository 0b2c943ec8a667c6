-- Lemmas on every rule.
pub mod News
