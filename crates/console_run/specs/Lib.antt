pub mod Speaking
pub mod Console
pub mod Timing
