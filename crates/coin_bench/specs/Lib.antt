-- What the bench deals and takes.
pub mod Scenes
