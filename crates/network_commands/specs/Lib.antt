pub mod Words
pub mod Input
pub mod Cause
pub mod TimedCause
