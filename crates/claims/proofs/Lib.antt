-- The proofs of the claims on evenings.
pub mod Sayable
pub mod Views
pub mod Halls
pub mod Agreeing
pub mod Calling
pub mod Filling
pub mod Speaking
pub mod Resting
