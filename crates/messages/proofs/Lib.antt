-- Lemmas on messages.
pub mod OfTags
pub mod Lists
pub mod Fit
