pub mod Parts
pub mod Operators
pub mod Answering
pub mod Steps
pub mod Short
