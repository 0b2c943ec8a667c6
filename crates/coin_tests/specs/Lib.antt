-- What the leader's coin comes to, and that it keeps what every coin keeps.
pub mod Leading
pub mod LeadingKeeps
