pub mod Polling
pub mod Marks
