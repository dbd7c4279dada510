pub mod Observing
pub mod Noting
pub mod Answering
pub mod Coding
