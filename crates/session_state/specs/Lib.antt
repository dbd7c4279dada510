pub mod Work
pub mod Journal
pub mod Kept
pub mod Subs
pub mod Calls
pub mod Progress
pub mod ProgressLaws
pub mod Own
