-- Lemmas on sums and on what calls and evenings record.
pub mod Sums
pub mod Adding
pub mod Hearing
pub mod Halls
