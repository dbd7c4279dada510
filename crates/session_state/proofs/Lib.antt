mod SettledWork
pub mod RunningLemmas
pub mod Places
pub mod InPlace
pub mod Telling
mod Settled
