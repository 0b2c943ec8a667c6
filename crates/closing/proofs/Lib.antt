-- The lemmas of closing.
pub mod Lowest
pub mod Entries
pub mod Sets
pub mod Fields
pub mod Listing
