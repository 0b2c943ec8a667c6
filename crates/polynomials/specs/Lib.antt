-- The definitions that the contracts on polynomials cite.
pub mod Polynomials
pub mod Shares
