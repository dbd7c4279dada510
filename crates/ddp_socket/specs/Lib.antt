pub mod Turns
pub mod Links
