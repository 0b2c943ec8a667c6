-- What the users of a replica are told.
pub mod Told
