-- The definitions that the bench's contracts cite.
pub mod Judging
