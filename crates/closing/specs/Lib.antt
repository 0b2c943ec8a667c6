-- The definitions that the contracts of closing cite.
pub mod Telling
pub mod RecordLength
pub mod ListTells
