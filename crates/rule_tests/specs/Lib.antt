-- A round rule unlike the two supplied ones, and that it keeps what every rule keeps.
pub mod OneShot
pub mod OneShotKeeps
pub mod Records
