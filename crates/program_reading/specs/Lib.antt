pub mod Faults
pub mod Names
pub mod Steps
pub mod Programs
pub mod Guarding
