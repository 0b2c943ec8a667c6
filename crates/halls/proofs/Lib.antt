-- Lemmas on what a till answers and leaves, and on the evening of a hall.
pub mod Leaving
pub mod Playing
pub mod Seats
pub mod Settings
pub mod Saying
pub mod Passing
pub mod Sweeping
pub mod Turning
pub mod Asking
pub mod Resting
pub mod Closed
pub mod Scripting
pub mod Whole
pub mod Agreeing
pub mod Newly
pub mod Beginning
pub mod Printing
