-- The definitions that the contracts of sheets cite.
pub mod Holds
pub mod HoldsLemmas
pub mod OfTakings
pub mod OfLabels
pub mod OfLabelsLemmas
pub mod OfTakingsLemmas
pub mod Tests
