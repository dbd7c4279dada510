pub mod Acts
pub mod Watch
pub mod Timed
pub mod Keeping
pub mod KeepingLaws
pub mod Times
