-- How much a replica and a hall have recorded, and how many calls of an evening hear something new.
pub mod Recorded
