pub mod Lines
pub mod Scripts
pub mod Speaking
pub mod Course
pub mod Ends
pub mod Moving
