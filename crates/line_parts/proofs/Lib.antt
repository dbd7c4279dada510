pub mod Forms
pub mod Levels
