-- Lemmas on polynomials modulo 251 and on the search, for this crate and those above.
pub mod Modular
pub mod Roots
pub mod Interpolation
pub mod Turns
pub mod Choosing
pub mod Trying
