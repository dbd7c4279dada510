pub mod Reached
pub mod ReachedLaws
pub mod Held
pub mod Standing
pub mod Events
