-- The definitions that the contracts of saying cite.
pub mod SaysTheFirst
