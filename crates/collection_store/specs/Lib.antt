pub mod Outcome
pub mod Limits
pub mod Applied
pub mod State
pub mod Finding
pub mod Answered
pub mod Inserting
