pub mod Acts
pub mod Parts
pub mod Progress
pub mod Planned
pub mod Writes
pub mod OneOperator
