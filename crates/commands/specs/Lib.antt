pub mod Status
pub mod Cause
