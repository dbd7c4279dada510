pub mod Template
pub mod Measuring
pub mod Runs
pub mod Guards
