pub mod Claims
pub mod Held
pub mod Forms
pub mod Changes
pub mod Saying
pub mod Sides
